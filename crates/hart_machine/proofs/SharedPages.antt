-- A lemma (`others_have_page`): another process has a page with the same copy number (which names one copy of a page in
-- memory) if and only if the count of the page's frame is not 1.
use Rattle.std.proofs.Common.{◌≡◌, ℕ, zero, suc, ◌==◌, Bool, true, false, not, Option, Some, None, List, [], ◌∷◌, length, refl, ap, sym, ◌∙◌, slice_index, arith}
use Rattle.std.specs.Prelude.{filter, slice_get, slice_set}
use Rattle.std.specs.List.{list_any}
use Rattle.std.proofs.lemmas.Option.{same_Some}
use Rattle.address_space.specs.Agreement.{IsFrameOfPage}
use Rattle.process_model.specs.Frames.{has_copy, live}
use Rattle.process_model.specs.PageMap.{get}
use Rattle.process_model.specs.Process.{Page, Process}
use Rattle.process_model.specs.World.{others_have, World}
use Rattle.hart_machine.specs.Worlds.{IsWorldButBuffers}
use Rattle.hart_machine.specs.declared.machine.Machine.{Machine}
use Rattle.hart_machine.proofs.HeldFrames.{count_of_page}
use Rattle.hart_machine.proofs.PageCopies.{among_has, copy_of_page}

two_more : (n : ℕ) → true ≡ not (suc (suc n) == 1)
two_more n = grind arith

-- a test that some pass
module _ (P : Process → Bool) where
  abbrev passing : List Process → ℕ
  passing ps = length (filter P ps)

  -- one more passes, and so some do where they are not one
  any_passing : (ps : List Process) → list_any P ps ≡ not (suc (passing ps) == 1)
  any_passing [] = refl
  any_passing (p ∷ ps) = elim (P p) as (λ b. P p ≡ b → list_any P (p ∷ ps) ≡ not (suc (length (filter P (p ∷ ps))) == 1)) [
    | true ↦ λ e. rw e (two_more (length (filter P ps)))
    | false ↦ λ e. rw e (any_passing ps)
  ] refl

  -- a process that passes is one of those that do
  one_more : (slots : List (Option Process)) (s : ℕ) (p : Process) → slice_get slots s ≡ Some (Some p) → P p ≡ true → passing (live slots) ≡ suc (passing (live (slice_set slots s None)))
  one_more [] s p at passes = absurd (cc)
  one_more (o ∷ slots) zero p at passes = rw (same_Some o (Some p) at, passes) refl
  one_more (None ∷ slots) (suc s) p at passes = one_more slots s p at passes
  one_more (Some q ∷ slots) (suc s) p at passes = elim (P q) as (λ b. P q ≡ b → length (filter P (live (Some q ∷ slots))) ≡ suc (length (filter P (live (slice_set (Some q ∷ slots) (suc s) None))))) [
    | true ↦ λ e. rw e (ap suc (one_more slots s p at passes))
    | false ↦ λ e. rw e (one_more slots s p at passes)
  ] refl

-- another process has the page exactly where its frame has not one reference
pub others_have_page : (m : Machine) (w : World) (is : IsWorldButBuffers m w) (s n f : ℕ) (p : Process) (a : Page) → slice_get w.slots s ≡ Some (Some p) → get p.settled n ≡ Some a → IsFrameOfPage (is.tables s) n f
    → others_have w s a.copy ≡ not (slice_index m.frames.counts f == 1)
others_have_page m w is s n f p a at settled on =
    let own : has_copy a.copy p ≡ true = among_has a.copy p (copy_of_page p n a settled) in
    let count = count_of_page m w is f a.copy record { slot = s; number = n; process = p; page = a; there = at; settled = settled; on = on; copy = refl } in
    any_passing (has_copy a.copy) (live (slice_set w.slots s None)) ∙ ap (λ (k : ℕ). not (k == 1)) (sym (count ∙ one_more (has_copy a.copy) w.slots s p at own))
