-- Laws of views (what a seat, an owner's capability at a frame store, holds and knows): what a view says of each frame
-- after the hold of one frame was set (`with_hold`) or removed (`without_hold`), and in an empty or opening view; of two
-- sets the later counts, and to set what is there changes nothing; lookups in maps of numbers; a release or a split keeps
-- the number of frames (`size`).
use Rattle.std.proofs.Common.{◌≡◌, ℕ, ◌-◌, ◌<◌, ◌==◌, List, [], ◌∷◌, Bool, true, false, cond, refl, ap, sym, ◌∙◌, Option, None, Some}
use Rattle.std.proofs.Common.{IsTrue, inl, inr, subst, arith, lit<}
use Rattle.std.proofs.lemmas.Bool.{ne_eqb, eq-eqb}
use Rattle.std.proofs.lemmas.Bool.Decides.{eqb_tells}
use Rattle.std.specs.Cmp.{nat_cmp_total, unsigned_tied}
use Rattle.std.specs.Ordering.{nat_cmp}
use Rattle.std.specs.FinMap as map
use Rattle.frame_store.specs.View.{View, Hold, hold_of, with_hold, without_hold, or_not_held, not_held, empty_view, opening_view, IsHeld}
use Rattle.frame_store.specs.View.{IsSole, references, released, moved_from, moved_to, split_off}

module _ (f : ℕ) (h : Hold) (v : View) where
  pub hold_of-with_hold_same : hold_of (with_hold f h v) f ≡ h
  unfolding hold_of
  hold_of-with_hold_same =
      ap or_not_held (map.get-insert nat_cmp_total v.frames f h f ∙ ap (λ b. cond b (Some h) (map.get v.frames f)) (unsigned_tied f f ∙ eq-eqb f f refl))

  pub hold_of-with_hold_other : (g : ℕ) → (g ≡ f → ⊥) → hold_of (with_hold f h v) g ≡ hold_of v g
  unfolding hold_of
  hold_of-with_hold_other g apart =
      ap or_not_held (map.get-insert nat_cmp_total v.frames f h g ∙ ap (λ b. cond b (Some h) (map.get v.frames g)) (unsigned_tied g f ∙ ne_eqb g f apart))

module _ (f : ℕ) (v : View) where
  pub hold_of-without_hold_same : hold_of (without_hold f v) f ≡ not_held
  unfolding hold_of
  hold_of-without_hold_same =
      ap or_not_held (map.get-remove nat_cmp_total v.frames f f ∙ ap (λ b. cond b None (map.get v.frames f)) (unsigned_tied f f ∙ eq-eqb f f refl))

  pub hold_of-without_hold_other : (g : ℕ) → (g ≡ f → ⊥) → hold_of (without_hold f v) g ≡ hold_of v g
  unfolding hold_of
  hold_of-without_hold_other g apart =
      ap or_not_held (map.get-remove nat_cmp_total v.frames f g ∙ ap (λ b. cond b None (map.get v.frames g)) (unsigned_tied g f ∙ ne_eqb g f apart))

-- a view's holds depend on its frames alone, not on credits or tallies
pub hold_of-frames : (v w : View) → v.frames ≡ w.frames → (g : ℕ) → hold_of v g ≡ hold_of w g
unfolding hold_of
hold_of-frames v w e g = ap (λ m. or_not_held (map.get m g)) e

pub hold_of-empty : (size g : ℕ) → hold_of (empty_view size) g ≡ not_held
unfolding hold_of
hold_of-empty size g = ap or_not_held (map.get-empty {X = Hold} nat_cmp g)

pub opening_holds : {size : ℕ} (v : View) → v ≡ opening_view size → IsHeld v 0
opening_holds {size} v e =
    subst (λ (k : Hold). 0 < k.references) (sym (ap (λ w. hold_of w 0) e
    ∙ hold_of-with_hold_same 0 record { references = 1; sole = true; words = map.empty } (empty_view size))) (lit< tt)

-- what a lookup in a map of numbers gives after an insertion
pub get-insert_at : {X : Type 0} (m : map.FinMap nat_cmp X) (k : ℕ) (x : X) (q : ℕ) → map.get (map.insert m k x) q ≡ cond (q == k) (Some x) (map.get m q)
get-insert_at m k x q = map.get-insert nat_cmp_total m k x q ∙ ap (λ b. cond b (Some x) (map.get m q)) (unsigned_tied q k)

-- two maps of numbers are equal if every lookup gives the same result in both
pub same_answers : {X : Type 0} (m n : map.FinMap nat_cmp X) → ((q : ℕ) → map.get m q ≡ map.get n q) → m ≡ n
same_answers m n is = map.same_map nat_cmp_total map.nat_cmp-IsAntisymmetric m n is

either_way : {A : Type 0} (b : Bool) (x y z : A) → cond b x (cond b y z) ≡ cond b x z
either_way true x y z = refl
either_way false x y z = refl

-- of two updates of one frame the later one counts
pub with_hold-with_hold : (f : ℕ) (h k : Hold) (v : View) → with_hold f h (with_hold f k v) ≡ with_hold f h v
with_hold-with_hold f h k v =
    ap (λ m. record v { frames = m }) (same_answers _ _ (λ q.
    get-insert_at (map.insert v.frames f k) f h q ∙ ap (cond (q == f) (Some h)) (get-insert_at v.frames f k q)
    ∙ either_way (q == f) (Some h) (Some k) (map.get v.frames q) ∙ sym (get-insert_at v.frames f h q)))

put_back : (f : ℕ) (h : Hold) (v : View) → map.get v.frames f ≡ Some h → with_hold f h v ≡ v
put_back f h v is =
    ap (λ m. record v { frames = m }) (same_answers _ _ (λ q. get-insert_at v.frames f h q ∙
    elim (eqb_tells q f) as (λ _. cond (q == f) (Some h) (map.get v.frames q) ≡ map.get v.frames q) [
      | inl t ↦ rw (t.0, t.1) (sym is)
      | inr t ↦ rw t.0 refl
    ]))

held_there : (o : Option Hold) (h : Hold) → or_not_held o ≡ h → 0 < h.references → o ≡ Some h
held_there None h e lt = absurd (let none : 0 ≡ h.references = ap (λ (k : Hold). k.references) e in omega arith)
held_there (Some k) h e lt = ap (λ x. Some x) e

sole_there : (o : Option Hold) → IsTrue (or_not_held o).sole → o ≡ Some (or_not_held o)
sole_there None sole = absurd (cc)
sole_there (Some k) sole = refl

-- to set a held frame's hold to what it is changes nothing
pub with_hold_back : (f : ℕ) (h : Hold) (v : View) → hold_of v f ≡ h → 0 < h.references → with_hold f h v ≡ v
unfolding hold_of
with_hold_back f h v e lt = put_back f h v (held_there _ h e lt)

pub with_sole_hold_back : (f : ℕ) (v : View) → IsSole v f → with_hold f (hold_of v f) v ≡ v
unfolding hold_of
with_sole_hold_back f v sole = put_back f (hold_of v f) v (sole_there _ sole)

-- no release and no move of references changes how many frames the store has

pub size-released : (f : ℕ) (v : View) → (released f v).size ≡ v.size
size-released f v = elim (references v f == 1) as (λ b.
    (cond b (without_hold f v) (with_hold f (record (hold_of v f) { references = references v f - 1 }) v)).size ≡ v.size) [ true ↦ refl | false ↦ refl ]

size-moved_from : (f : ℕ) (v : View) → (moved_from f v).size ≡ v.size
size-moved_from f v =
    elim (references v f == 1) as (λ b. (cond b (without_hold f v) (with_hold f record {
      references = references v f - 1;
      sole = false;
      words = (hold_of v f).words;
    } v)).size ≡ v.size) [ true ↦ refl | false ↦ refl ]

pub size-split : (fs : List ℕ) (v w : View) → ((split_off fs v w).0).size ≡ v.size × ((split_off fs v w).1).size ≡ w.size
size-split [] v w = (refl, refl)
size-split (f ∷ fs) v w = let rest = size-split fs (moved_from f v) (moved_to f (hold_of v f) w) in (rest.0 ∙ size-moved_from f v, rest.1)
