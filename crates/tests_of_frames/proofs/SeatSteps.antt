-- Lemmas for the tests of both frame stores: which frames a seat holds after each call (reserve, give back, claim, share,
-- look, store, release), in a round of two frames (`Round`), and after a second seat is split off.
use Rattle.std.proofs.Common.{◌≡◌, ◌≢◌, inl, inr, ℕ, ◌+◌, ◌-◌, ◌<◌, refl, ap, sym, ◌∙◌, subst, Result, Ok, Err, IfOk, IfErr, [], ◌∷◌, arith, lit<}
use Rattle.std.specs.Prelude.{IsOk}
use Rattle.std.proofs.lemmas.Bool.Decides.{eqb_tells}
use Rattle.frame_store.specs.Laws.{IsAnchored, IsDry}
use Rattle.frame_store.specs.View.{View, Hold, hold_of, references, IsHeld, IsSole, sole_hold, empty_view, with_credits, without_credits, with_word, claimed, shared, looked, read_full, released, split_off}
use Rattle.frame_store.specs.Holds.{hold_of-frames, hold_of-empty}
use Rattle.frame_store.specs.Plain.{PlainState, PlainStateInvariant, to_front}
use Rattle.frame_store.specs.ViewChanges.{SetsHold, puts, left_of, left-references, released-puts, stays, moved_from-puts, moved_to-puts}

here : (f : ℕ) (h : Hold) (v w : View) → SetsHold f h v w → references w f ≡ h.references
here f h v w p = ap (λ (z : Hold). z.references) p.here

apart : (f : ℕ) (h : Hold) (v w : View) → SetsHold f h v w → (g : ℕ) → g ≢ f → references w g ≡ references v g
apart f h v w p g ne = ap (λ (z : Hold). z.references) (p.apart g ne)

claimed-is : (f : ℕ) (v w : View) → w ≡ claimed f v → SetsHold f sole_hold v w
claimed-is f v w e = subst (SetsHold f sole_hold v) (sym e) (puts f sole_hold v _ refl)

shared-is : (f : ℕ) (v w : View) → w ≡ shared f v → SetsHold f (record (hold_of v f) { references = references v f + 1 }) v w
shared-is f v w e = subst (SetsHold f _ v) (sym e) (puts f _ v v refl)

released-is : (f : ℕ) (v w : View) → w ≡ released f v → SetsHold f (left_of f v) v w
released-is f v w e = subst (SetsHold f (left_of f v) v) (sym e) (released-puts f v)

-- what is held stays held
abbrev pub Wider : View → View → Type 0
Wider v w = (g : ℕ) → IsHeld v g → IsHeld w g

same_frames : (v w : View) → w.frames ≡ v.frames → Wider v w
same_frames v w e g h = subst (λ (z : Hold). 0 < z.references) (sym (hold_of-frames w v e g)) h

pub reserve-wider : {A E : Type 0} (n : ℕ) (v w : View) (r : Result A E) → IfOk r (λ _. w ≡ with_credits n v) → IfErr r (λ _. IsDry n v w) → Wider v w
reserve-wider n v w (Ok x) ok err = subst (Wider v) (sym ok) (same_frames v (with_credits n v) refl)
reserve-wider n v w (Err x) ok err = same_frames v w err.frames

-- and where it wasn't refused there are credits
pub reserve-credits : {A E : Type 0} (n : ℕ) (v w : View) (r : Result A E) → 0 < n → IsOk r → IfOk r (λ _. w ≡ with_credits n v) → 0 < w.credits
reserve-credits n v w (Ok x) some is ok = let e : w.credits ≡ v.credits + n = ap (λ (u : View). u.credits) ok in omega arith
reserve-credits n v w (Err x) some is ok = absurd (cc)

pub given-wider : (n : ℕ) (v w : View) → w ≡ without_credits n v → Wider v w
given-wider n v w e = subst (Wider v) (sym e) (same_frames v (without_credits n v) refl)

put_wider : (f : ℕ) (h : Hold) (v w : View) → SetsHold f h v w → (IsHeld v f → 0 < h.references) → Wider v w
put_wider f h v w p more g held = elim (eqb_tells g f) as (λ _. IsHeld w g) [
  | inl e ↦ subst (IsHeld w) (sym e.1) (subst (λ (z : Hold). 0 < z.references) (sym p.here) (more (subst (IsHeld v) e.1 held)))
  | inr e ↦ subst (λ (z : Hold). 0 < z.references) (sym (p.apart g e.1)) held
]

pub claim-wider : (f : ℕ) (v w : View) → w ≡ claimed f v → Wider v w
claim-wider f v w e = put_wider f sole_hold v w (claimed-is f v w e) (λ _. lit< tt)

pub claim-sole : (f : ℕ) (v w : View) → w ≡ claimed f v → IsHeld w f × IsSole w f
claim-sole f v w e = let p = claimed-is f v w e in (subst (λ (z : Hold). 0 < z.references) (sym p.here) (lit< tt), ap (λ (z : Hold). z.sole) p.here)

-- and it is not frame 0, which was held before
pub claim-apart : (f : ℕ) (v : View) → references v f ≡ 0 → IsHeld v 0 → 0 ≡ f → ⊥
claim-apart f v none held e = let zero_none : references v 0 ≡ 0 = ap (references v) e ∙ none in omega arith

pub share-wider : {A E : Type 0} (f : ℕ) (v w : View) (r : Result A E) → IfOk r (λ _. w ≡ shared f v) → IfErr r (λ _. w ≡ read_full v) → Wider v w
share-wider f v w (Ok x) ok err = put_wider f _ v w (shared-is f v w ok) (λ _. omega arith)
share-wider f v w (Err x) ok err = subst (Wider v) (sym err) (same_frames v (read_full v) refl)

pub look-wider : (f c : ℕ) (v w : View) → w ≡ looked f c v → Wider v w
look-wider f c v w e = subst (Wider v) (sym e) (put_wider f _ v _ (puts f _ v _ refl) (λ h. h))

pub store-wider : (f i x : ℕ) (v w : View) → w ≡ with_word f i x v → Wider v w
store-wider f i x v w e = subst (Wider v) (sym e) (put_wider f _ v _ (puts f _ v v refl) (λ h. h))

-- ---- a round: frame 0 and so many references of two frames
pub record Round (f g a b : ℕ) (v : View) : Type 0 where
  pub base : IsHeld v 0
  pub first_apart : 0 ≢ f
  pub second_apart : 0 ≢ g
  pub apart : f ≢ g
  pub first : references v f ≡ a
  pub second : references v g ≡ b

pub claims_two : (f g : ℕ) (v w x : View) → IsHeld v 0 → references v f ≡ 0 → w ≡ claimed f v → references w g ≡ 0 → x ≡ claimed g w → Round f g 1 1 x
claims_two f g v w x base none e none' e' =
    let p = claimed-is f v w e in
    let q = claimed-is g w x e' in
    let nf : 0 ≢ f = λ k. let z : references v 0 ≡ 0 = ap (references v) k ∙ none in omega (arith, z, base) in
    let base' : IsHeld w 0 = claim-wider f v w e 0 base in
    let ng : 0 ≢ g = λ k. let z : references w 0 ≡ 0 = ap (references w) k ∙ none' in omega (arith, z, base') in
    let one = here f sole_hold v w p in
    let ne : f ≢ g = λ k. let z : references w f ≡ 0 = ap (references w) k ∙ none' in omega (arith, z, one) in
    record {
      base = claim-wider g w x e' 0 base';
      first_apart = nf;
      second_apart = ng;
      apart = ne;
      first = apart g sole_hold w x q f ne ∙ one;
      second = here g sole_hold w x q;
    }

pub shares_first : (f g a b : ℕ) (v w : View) → Round f g a b v → w ≡ shared f v → Round f g (a + 1) b w
shares_first f g a b v w r e =
    let p = shared-is f v w e in
    record {
      base = let k = apart f _ v w p 0 r.first_apart in omega (arith, k, r.base);
      first_apart = r.first_apart;
      second_apart = r.second_apart;
      apart = r.apart;
      first = let k = here f _ v w p in omega (arith, k, r.first);
      second = apart f _ v w p g (λ k. r.apart (sym k)) ∙ r.second;
    }

pub releases_first : (f g a b : ℕ) (v w : View) → Round f g a b v → w ≡ released f v → Round f g (a - 1) b w
releases_first f g a b v w r e =
    let p = released-is f v w e in
    record {
      base = let k = apart f _ v w p 0 r.first_apart in omega (arith, k, r.base);
      first_apart = r.first_apart;
      second_apart = r.second_apart;
      apart = r.apart;
      first = let k = here f _ v w p in let l = left-references f v in omega (arith, k, l, r.first);
      second = apart f _ v w p g (λ k. r.apart (sym k)) ∙ r.second;
    }

other_way : (f g a b : ℕ) (v : View) → Round f g a b v → Round g f b a v
other_way f g a b v r = record { base = r.base; first_apart = r.second_apart; second_apart = r.first_apart; apart = λ k. r.apart (sym k); first = r.second; second = r.first }

pub releases_second : (f g a b : ℕ) (v w : View) → Round f g a b v → w ≡ released g v → Round f g a (b - 1) w
releases_second f g a b v w r e = other_way g f (b - 1) a w (releases_first g f b a v w (other_way f g a b v r) e)

-- ---- frame 0 for another seat
pub share-two : (v w : View) → IsHeld v 0 → w ≡ shared 0 v → 1 < references w 0
share-two v w h e = let k = here 0 _ v w (shared-is 0 v w e) in omega (arith, k, h)

pub left-base : (v w : View) → 1 < references v 0 → w ≡ (split_off (0 ∷ []) v (empty_view v.size)).0 → IsHeld w 0
left-base v w more e = subst (λ u. IsHeld u 0) (sym e) (let k = ap (λ (z : Hold). z.references) (moved_from-puts 0 v).here in
    elim (eqb_tells (references v 0) 1) as (λ _. (references (split_off (0 ∷ []) v (empty_view v.size)).0 0 ≡ (stays 0 v).references) → IsHeld (split_off (0 ∷ []) v (empty_view v.size)).0 0) [
      | inl t ↦ λ _. absurd (omega (arith, more, t.1))
      | inr t ↦ λ k. let s : (stays 0 v).references ≡ references v 0 - 1 = rw t.0 refl in omega (arith, k, s, more)
    ] k)

pub right-base : (v w : View) → w ≡ (split_off (0 ∷ []) v (empty_view v.size)).1 → IsHeld w 0
right-base v w e = subst (λ u. IsHeld u 0) (sym e) (let k = ap (λ (z : Hold). z.references) (moved_to-puts 0 v (empty_view v.size)).here in omega (arith, k))

pub empty-anchored : (size : ℕ) → IsAnchored (empty_view size)
empty-anchored size f h = absurd (let k = ap (λ (z : Hold). z.references) (hold_of-empty size f) in omega (arith, k, h))

-- where frame 0 is held beside the frame that is let go, the seat stays anchored
pub release-anchored : (f : ℕ) (v : View) → 0 ≢ f → IsHeld v 0 → IsAnchored (released f v)
release-anchored f v ne held g h = subst (λ (z : Hold). 0 < z.references) (sym ((released-puts f v).apart 0 ne)) held

-- of two seats either may come first
pub turn : (s : PlainState) (v w : View) → PlainStateInvariant s (v ∷ w ∷ []) → PlainStateInvariant s (w ∷ v ∷ [])
turn s v w r = to_front s.words s.counts s.free (v ∷ []) w [] r
