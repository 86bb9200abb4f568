-- Lemmas for `share_frames`: the seat with one more reference taken (`more_next`), and its counts; a refused one takes none
-- (`looked_more`).
use Rattle.std.proofs.Common.{◌≡◌, ℕ, ◌+◌, ◌<◌, ◌≤◌, refl, ap, sym, subst, ◌∙◌, inl, inr, List, [], ◌∷◌, ◌++◌, arith}
use Rattle.std.proofs.lemmas.Bool.{cases_eq}
use Rattle.frame_store.specs.Holds.{hold_of-frames, hold_of-with_hold_other, hold_of-with_hold_same}
use Rattle.frame_store.specs.Laws.{CountBecomes, IsAnchored}
use Rattle.frame_store.specs.View.{Hold, hold_of, IsHeld, read_full, references, shared, View}
use Rattle.cow_fork.specs.Occurrences.{times}
use Rattle.cow_fork.specs.ForkReferences.{HasMore, with_more}
use Rattle.cow_fork.proofs.Going.{times_last_other, times_last_same}
use Rattle.cow_fork.proofs.Releasing.{times_same}

pub times_both : (f : ℕ) (xs ys : List ℕ) → times f (xs ++ ys) ≡ times f xs + times f ys
times_both f [] ys = omega arith
times_both f (x ∷ xs) ys = let rest = times_both f xs ys in omega (arith, rest)

-- none was taken yet
pub more_none : (v : View) → IsAnchored v → HasMore v v []
more_none v anchored = record {
  holds = λ f. same (hold_of v f);
  held = λ f some. absurd (omega (arith, some));
  anchored = anchored;
} where
  same : (h : Hold) → h ≡ with_more 0 h
  same h = ap (λ (k : ℕ). let z : Hold = record h { references = k } in z) (omega arith)

-- one more
pub more_next : (v w u : View) (L : List ℕ) (g : ℕ) → HasMore v w L → IsHeld v g → u ≡ shared g w → HasMore v u (L ++ g ∷ [])
more_next v w u L g more held is = record {
  holds = λ f. elim (cases_eq f g) [
    | inl same ↦ (
        let h : Hold = record (hold_of w g) { references = references w g + 1 } in
        let last = times_last_same g L in
        let was = more.holds g in
        let number : references v g + times g L + 1 ≡ references v g + times g (L ++ g ∷ []) = omega (arith, last) in
        ap (λ (k : View). hold_of k f) is ∙ ap (hold_of (shared g w)) same ∙ hold_of-with_hold_same g h w
        ∙ ap (λ (k : Hold). let z : Hold = record k { references = k.references + 1 } in z) was
        ∙ ap (λ (n : ℕ). let z : Hold = record (hold_of v g) { references = n } in z) number
        ∙ ap (λ n. with_more (times n (L ++ g ∷ [])) (hold_of v n)) (sym same))
    | inr apart ↦ (
        let h : Hold = record (hold_of w g) { references = references w g + 1 } in
        ap (λ (k : View). hold_of k f) is ∙ hold_of-with_hold_other g h w f apart ∙ more.holds f
        ∙ ap (λ n. with_more n (hold_of v f)) (sym (times_last_other f g L (λ e. apart (sym e)))))
  ];
  held = λ f some. elim (cases_eq f g) [
    | inl same ↦ subst (IsHeld v) (sym same) held
    | inr apart ↦ more.held f (let other = times_last_other f g L (λ e. apart (sym e)) in omega (arith, other, some))
  ];
  anchored = more.anchored;
}

-- what was held is
pub held_still : (v w : View) (L : List ℕ) (g : ℕ) → HasMore v w L → IsHeld v g → IsHeld w g
held_still v w L g more held = let now = ap (λ (h : Hold). h.references) (more.holds g) in omega (arith, now, held)

-- how many references each frame has, as they are taken
abbrev pub HaveComeTo : (ℕ → ℕ) → (ℕ → ℕ) → List ℕ → Type 0
HaveComeTo before after L = (f : ℕ) → after f ≡ before f + times f L

pub come_next : (before between after : ℕ → ℕ) (L : List ℕ) (g : ℕ) → HaveComeTo before between L → CountBecomes between after g (between g + 1) → HaveComeTo before after (L ++ g ∷ [])
come_next before between after L g come becomes f = elim (cases_eq f g) [
  | inl same ↦ (
      let here = becomes.here in
      let was = come g in
      let last = times_last_same g L in
      ap after same ∙ here ∙ omega (arith, was, last) ∙ ap (λ k. before k + times k (L ++ g ∷ [])) (sym same))
  | inr apart ↦ (let other = times_last_other f g L (λ e. apart (sym e)) in let was = come f in becomes.apart f apart ∙ omega (arith, was, other))
]

-- a frame whose reference is to be taken next was not taken before
pub not_before : (g : ℕ) (L rest : List ℕ) → times g (L ++ g ∷ rest) ≤ 1 → times g L ≡ 0
not_before g L rest most = let both = times_both g L (g ∷ rest) in let one = times_same g rest in omega (arith, both, one, most)

pub among : (g : ℕ) (L rest : List ℕ) → 0 < times g (L ++ g ∷ rest)
among g L rest = let both = times_both g L (g ∷ rest) in let one = times_same g rest in omega (arith, both, one)

-- a refused share takes none
pub looked_more : (v w u : View) (L : List ℕ) → u ≡ read_full w → HasMore v w L → HasMore v u L
looked_more v w u L is more = record {
  holds = λ f. ap (λ (k : View). hold_of k f) is ∙ hold_of-frames (read_full w) w refl f ∙ more.holds f;
  held = more.held;
  anchored = more.anchored;
}
