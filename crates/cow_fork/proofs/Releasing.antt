-- Lemmas for `release_all`: dropping one more reference of a list, and all of them: the holds are then what they were before
-- these references were taken, and credits, tallies and size stay.
use Rattle.std.proofs.Common.{◌≡◌, ℕ, ◌+◌, ◌-◌, ◌<◌, ◌≤◌, get_or, cond, refl, ap, sym, subst, ◌∙◌, inl, inr, List, [], ◌∷◌, drop, length, map, arith}
use Rattle.std.proofs.lemmas.Bool.{cases_eq, eq-eqb, ne_eqb}
use Rattle.std.proofs.lemmas.List.{at_drop_all, at_drop_more}
use Rattle.frame_store.specs.Holds.{hold_of-with_hold_other, hold_of-with_hold_same}
use Rattle.frame_store.specs.Laws.{IsAnchored}
use Rattle.frame_store.specs.View.{Hold, hold_of, IsHeld, references, released, View, with_hold, without_hold}
use Rattle.sv39_entry.specs.declared.frame.FrameNo.{FrameNo}
use Rattle.cow_fork.specs.Occurrences.{times}
use Rattle.cow_fork.specs.ForkReferences.{HasMore, with_more}

pub times_same : (f : ℕ) (L : List ℕ) → times f (f ∷ L) ≡ 1 + times f L
times_same f L = rw (eq-eqb f f refl) (omega arith)

pub times_other : (f g : ℕ) (L : List ℕ) → (g ≡ f → ⊥) → times f (g ∷ L) ≡ times f L
times_other f g L apart = rw (ne_eqb g f apart) (omega arith)

module _ (v w : View) (g : ℕ) (L : List ℕ) (more : HasMore v w (g ∷ L)) where
  base : 0 < references v g
  base = let one = times_same g L in more.held g (omega (arith, one))

  now : references w g ≡ references v g + (1 + times g L)
  now = ap (λ (h : Hold). h.references) (more.holds g) ∙ ap (λ k. references v g + k) (times_same g L)

  pub is_held : IsHeld w g
  is_held = let n = now in omega (arith, n)

  released_is : released g w ≡ with_hold g (record (hold_of w g) { references = references w g - 1 }) w
  released_is =
      let n = now in
      let some = base in
      ap (λ b. cond b (without_hold g w) (with_hold g (record (hold_of w g) { references = references w g - 1 }) w)) (ne_eqb (references w g) 1 (λ one. omega (arith, n, some, one)))

  released_holds : (f : ℕ) → hold_of (released g w) f ≡ with_more (times f L) (hold_of v f)
  released_holds f = elim (cases_eq f g) [
    | inl same ↦ (
        let n = now in
        let less : references w g - 1 ≡ references v g + times g L = omega (arith, n) in
        ap (λ k. hold_of k f) released_is ∙ ap (hold_of (with_hold g (record (hold_of w g) { references = references w g - 1 }) w)) same
        ∙ hold_of-with_hold_same g (record (hold_of w g) { references = references w g - 1 }) w
        ∙ ap (λ (k : ℕ). let h : Hold = record (hold_of w g) { references = k } in h) less
        ∙ ap (λ (h : Hold). let z : Hold = record h { references = references v g + times g L } in z) (more.holds g)
        ∙ ap (λ k. with_more (times k L) (hold_of v k)) (sym same))
    | inr apart ↦ (
        ap (λ k. hold_of k f) released_is ∙ hold_of-with_hold_other g (record (hold_of w g) { references = references w g - 1 }) w f apart ∙ more.holds f
        ∙ ap (λ k. with_more k (hold_of v f)) (times_other f g L (λ e. apart (sym e))))
  ]

  pub still_more : HasMore v (released g w) L
  still_more = record {
    holds = released_holds;
    held = λ f some. more.held f (elim (cases_eq f g) [
      | inl same ↦ (let one = times_same g L in subst (λ k. 0 < times k (g ∷ L)) (sym same) (omega (arith, one)))
      | inr apart ↦ (let other = times_other f g L (λ e. apart (sym e)) in omega (arith, other, some))
    ]);
    anchored = more.anchored;
  }

  pub still_anchored : IsAnchored (released g w)
  still_anchored f held =
      let here = ap (λ (h : Hold). h.references) (released_holds f) in
      let first = ap (λ (h : Hold). h.references) (released_holds 0) in
      let was : IsHeld v f = elim (cases_eq 0 (times f L)) [
        | inl nought ↦ omega (arith, held, here, nought)
        | inr some ↦ still_more.held f (omega (arith, some))
      ] in
      let code = more.anchored f was in
      omega (arith, code, first)

  pub credits_stay : (released g w).credits ≡ w.credits
  credits_stay = ap (λ (k : View). k.credits) released_is

  pub tallies_stay : (released g w).tallies ≡ w.tallies
  tallies_stay = ap (λ (k : View). k.tallies) released_is

  pub size_stays : (released g w).size ≡ w.size
  size_stays = ap (λ (k : View). k.size) released_is

-- as far as a list of frames was gone through
module _ (v w : View) (frames : List FrameNo) (i : ℕ) (d : FrameNo) (lt : i < length frames) (more : HasMore v w (map (λ f. f.0) (drop i frames))) where
  abbrev here : ℕ
  here = (get_or frames i d).0

  abbrev rest : List ℕ
  rest = map (λ f. f.0) (drop (i + 1) frames)

  from_here : HasMore v w (here ∷ rest)
  from_here = subst (HasMore v w) (at_drop_more (map (λ (f : FrameNo). f.0)) frames i d lt) more

  pub here_held : IsHeld w here
  here_held = is_held v w here rest from_here

  pub here_anchored : IsAnchored (released here w)
  here_anchored = still_anchored v w here rest from_here

  pub goes_on : HasMore v (released here w) rest
  goes_on = still_more v w here rest from_here

  pub stay : ((released here w).credits ≡ w.credits) × ((released here w).tallies ≡ w.tallies) × ((released here w).size ≡ w.size)
  stay = (credits_stay v w here rest from_here, tallies_stay v w here rest from_here, size_stays v w here rest from_here)

-- none is left
pub all_gone : (v w : View) (frames : List FrameNo) (i : ℕ) → length frames ≤ i → HasMore v w (map (λ f. f.0) (drop i frames)) → (f : ℕ) → hold_of w f ≡ hold_of v f
all_gone v w frames i past more f =
    let none : HasMore v w [] = subst (HasMore v w) (at_drop_all (map (λ (g : FrameNo). g.0)) frames i past) more in
    none.holds f ∙ nothing_more (hold_of v f) where
      nothing_more : (h : Hold) → with_more 0 h ≡ h
      nothing_more h = ap (λ (k : ℕ). let z : Hold = record h { references = k } in z) (omega arith)
