-- Lemmas: the checks of the segments up to one, and of that one.
use Rattle.std.proofs.Common.{◌≡◌, ℕ, zero, suc, ◌+◌, List, [], ◌∷◌, take, fold, refl, ap, ◌∙◌, Some, Result, Ok, Err, arith}
use Rattle.std.specs.Prelude.{IsErr, is_err, true, false, slice_get}
use Rattle.std.proofs.lemmas.Option.{same_Some}
use Rattle.process_model.specs.Images.{LoadSegment, ProgramHeader, judged, next_judged}
use Rattle.process_model.specs.declared.image.BadImage.{BadImage}
use Rattle.exec_segments.specs.FirstFaults.{IsFirstFaulty}
use Rattle.exec_segments.specs.Loads.{loads_after}
use Rattle.sv39_entry.specs.declared.scheme.Scheme.{Scheme}

fold_more : {A B : Type 0} (f : B → A → B) (b : B) (xs : List A) (i : ℕ) (x : A) → slice_get xs i ≡ Some x → fold f b (take (suc i) xs) ≡ f (fold f b (take i xs)) x
fold_more f b [] i x at = absurd cc
fold_more f b (y ∷ xs) zero x at = ap (f b) (same_Some y x at)
fold_more f b (y ∷ xs) (suc i) x at = fold_more f (f b y) xs i x at

pub passed_more : (z : Scheme) (headers : List ProgramHeader) (i : ℕ) (h : ProgramHeader) (before after : List LoadSegment) → slice_get headers i ≡ Some h → fold (next_judged z) (Ok []) (take i headers) ≡ Ok before → judged z before h ≡ Ok after
    → fold (next_judged z) (Ok []) (take (i + 1) headers) ≡ Ok after
passed_more z headers i h before after at passed one =
    let more : i + 1 ≡ suc i = omega arith in
    ap (λ (n : ℕ). fold (next_judged z) (Ok []) (take n headers)) more ∙ fold_more (next_judged z) (Ok []) headers i h at ∙ ap (λ r. next_judged z r h) passed ∙ one

fails_after : (r : Result (Unit {0}) BadImage) (after : List LoadSegment) → is_err r ≡ true → IsErr (loads_after r after)
fails_after (Ok u) after e = absurd cc
fails_after (Err x) after e = refl

goes_after : (r : Result (Unit {0}) BadImage) (after : List LoadSegment) → is_err r ≡ false → loads_after r after ≡ Ok after
goes_after (Ok u) after e = refl
goes_after (Err x) after e = absurd cc

module _ (z : Scheme) (headers : List ProgramHeader) (i : ℕ) (h : ProgramHeader) (before after : List LoadSegment) (r : Result (Unit {0}) BadImage) (at : slice_get headers i ≡ Some h) (passed : fold (next_judged z) (Ok []) (take i headers) ≡ Ok before)
    (one : judged z before h ≡ loads_after r after) where
  pub faulty : is_err r ≡ true → IsFirstFaulty z headers i
  faulty e = record { before = before; header = h; there = at; passed = passed; fails = ap is_err one ∙ fails_after r after e }

  pub goes_on : is_err r ≡ false → fold (next_judged z) (Ok []) (take (i + 1) headers) ≡ Ok after
  goes_on e = passed_more z headers i h before after at passed (one ∙ goes_after r after e)
