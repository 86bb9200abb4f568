-- Lemmas for munmap and sbrk: whether a range of pages that is released has a settled page (one in memory) says whether the
-- call changes leaves (`tells`); and the arithmetic of the new size.
use Rattle.std.proofs.Common.{◌≡◌, ℕ, ℤ, pos, Bool, true, false, ◌+ℤ◌, ◌<◌, ◌≤◌, refl, ap, sym, subst, ◌∙◌, arith, Option, None, Some, of_z, to_z, w64}
use Rattle.std.specs.Prelude.{Err, nat_abs, Ok, Result}
use Rattle.std.specs.Int.{div_ceil, FitsUnsigned}
use mir.Val.{SFits}
use Rattle.lazy_growth.proofs.SizeRefusals.{below_zero, heap_low}
use Rattle.process_model.specs.Bytes.{pages_for}
use Rattle.process_model.specs.Heap.{resized, resized_unless, sbrk_result, size_refusal, wanted_size}
use Rattle.process_model.specs.Order.{HasOrder}
use Rattle.process_model.specs.PageMap.{get}
use Rattle.process_model.specs.Process.{Page, Process}
use Rattle.process_model.specs.declared.reply.Refusal.{Refusal}
use Rattle.process_model.specs.declared.reply.Refusal.TheVariants.{BadSize}
use Rattle.hart_machine.proofs.ChangedSlots.{changed}
use Rattle.sv39_entry.specs.Schemes.{trapframe_page}

pub ceil : (n : ℕ) → div_ceil n 4096 ≡ pages_for n
ceil n = omega arith

-- a settled page of a run, and that there is none

abbrev pub SomeIn : Process → ℕ → ℕ → Type 0
SomeIn p first end = (n : ℕ) × (s : Page) × (get p.settled n ≡ Some s) × (first ≤ n) × (n < end)

abbrev pub NoneIn : Process → ℕ → ℕ → Type 0
NoneIn p first end = (n : ℕ) (s : Page) → get p.settled n ≡ Some s → first ≤ n → n < end → ⊥

-- where a settled page of the run changes the leaves, and without one they stay, the one tells the other
module _ (p q : Process) (first end f e : ℕ) (from_is : f ≡ first) (end_is : e ≡ end)
    (changes : (n : ℕ) (s : Page) → get p.settled n ≡ Some s → first ≤ n → n < end → changed p q ≡ true) (keeps : NoneIn p first end → changed p q ≡ false) where
  pub tells : (b : Bool) → (b ≡ true → SomeIn p f e) → (b ≡ false → NoneIn p f e) → b ≡ changed p q
  tells true some none =
      let x = some refl in
      let from = x.3 in
      let to = x.4 in
      sym (changes x.0 x.1 x.2 (omega (arith, from, from_is)) (omega (arith, to, end_is)))
  tells false some none = sym (keeps (λ n s there from to. none refl n s there (omega (arith, from, from_is)) (omega (arith, to, end_is))))

-- ---- sbrk

same_process : (p q : Process) → ◌≡◌ {A = Result Process Refusal} (Ok p) (Ok q) → p ≡ q
same_process p q is = cc

module _ (p q : Process) (delta : ℤ) (is : sbrk_result p delta ≡ Ok q) where
  -- the process has the size that was asked for
  pub new_size : q.size ≡ nat_abs (wanted_size p delta)
  unfolding sbrk_result
  new_size = by (size_refusal p (wanted_size p delta)) is
    where
      by : (o : Option Refusal) → resized_unless p (nat_abs (wanted_size p delta)) o ≡ Ok q → q.size ≡ nat_abs (wanted_size p delta)
      by None e = ap (λ (r : Process). r.size) (sym (same_process (resized p (nat_abs (wanted_size p delta))) q e))
      by (Some r) e = absurd cc

  not_refused : (r : Refusal) → size_refusal p (wanted_size p delta) ≡ Some r → ⊥
  unfolding sbrk_result
  not_refused r refused = let both : ◌≡◌ {A = Result Process Refusal} (Err r) (Ok q) = sym (ap (resized_unless p (nat_abs (wanted_size p delta))) refused) ∙ is in cc

  -- and that is a word
  pub is_word : (size : ℕ) → HasOrder 0 p → p.size ≡ size → SFits w64 delta → (FitsUnsigned w64 (pos size +ℤ to_z w64 (of_z w64 delta)) → ⊥) → ⊥
  is_word size order same fits unfit =
      not_refused BadSize (below_zero p.scheme p size delta same (subst (λ n. pages_for n ≤ (trapframe_page p.scheme)) same (heap_low p order)) fits unfit)
