-- Lemmas: the heap's pages lie below TRAPFRAME; and if the size that sbrk is asked for is no 64-bit number, it is below 0
-- and the model refuses it with `BadSize`.
use Rattle.std.proofs.Common.{◌≡◌, ℕ, ℤ, pos, negsuc, w64, ◌+ℤ◌, ◌<ℤ◌, ◌^◌, ◌≤◌, true, refl, arith, of_z, to_z, Some}
use Rattle.std.specs.Prelude.{int_lt}
use Rattle.std.specs.Int.{FitsUnsigned}
use Rattle.std.proofs.lemmas.Int.{ints, to_z-of_z}
use mir.Val.{SFits}
use Rattle.process_model.specs.Bytes.{pages_for}
use Rattle.process_model.specs.Heap.{size_refusal, wanted_size}
use Rattle.process_model.specs.Order.{HasOrder}
use Rattle.process_model.specs.Process.{Process}
use Rattle.process_model.proofs.RegionRows.{row_up}
use Rattle.process_model.specs.declared.reply.Refusal.TheVariants.{BadSize}
use Rattle.sv39_entry.specs.Schemes.{trapframe_page, of_scheme}
use Rattle.sv39_entry.specs.declared.scheme.Scheme.{Scheme}

-- the pages of a heap lie below the trapframe
pub heap_low : (p : Process) → HasOrder 0 p → pages_for p.size ≤ trapframe_page p.scheme
heap_low p order = row_up 1 (pages_for p.size) (trapframe_page p.scheme) p.mappings order.above

-- a sum that is no word is below 0, and so below every base

small : (size : ℕ) (delta : ℤ) → size ≤ 2 ^ 47 → SFits w64 delta → (pos size +ℤ delta) <ℤ pos (2 ^ 64)
small size delta low fits = omega (arith, ints)

negative : (z : ℤ) (base : ℕ) → z <ℤ pos (2 ^ 64) → (FitsUnsigned w64 z → ⊥) → int_lt z (pos base) ≡ true
negative (negsuc n) base less unfit = refl
negative (pos n) base less unfit = absurd (unfit (omega (arith, ints), less))

pub below_zero : (z : Scheme) (p : Process) (size : ℕ) (delta : ℤ) → p.size ≡ size → pages_for size ≤ trapframe_page z → SFits w64 delta
    → (FitsUnsigned w64 (pos size +ℤ to_z w64 (of_z w64 delta)) → ⊥) → size_refusal p (wanted_size p delta) ≡ Some BadSize
below_zero z p size delta same low fits unfit =
    let sum = negative (pos size +ℤ delta) p.heap_base (small size delta (omega (arith, low, of_scheme z)) fits) (rw to_z-of_z at unfit) in
    let is : int_lt (wanted_size p delta) (pos p.heap_base) ≡ true = rw same sum in
    rw is refl
