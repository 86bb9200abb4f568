-- sbrk (`sbrk_result`): the heap grows without taking a frame, or shrinks and releases its pages; refused with BadSize or
-- NoRoom. Also `without_pages`, a process without those pages of a run that are in memory.
use Rattle.std.specs.Prelude.{ℕ, ℤ, pos, nat_le, nat_lt, ◌||◌, ◌+ℤ◌, nat_abs, int_lt, Option, None, Some, Result, Ok, Err, List, [], ◌∷◌}
use Rattle.process_model.specs.Bytes.{pages_for, first_true}
use Rattle.process_model.specs.PageMap.{only}
use Rattle.process_model.specs.Regions.{Region}
use Rattle.process_model.specs.Process.{Process}
use Rattle.sv39_entry.specs.Schemes.{trapframe_page}
use Rattle.sv39_entry.specs.declared.scheme.Scheme.{Scheme}
use Rattle.process_model.specs.declared.reply.Refusal.{Refusal}
use Rattle.process_model.specs.declared.reply.Refusal.TheVariants.{BadSize, NoRoom}

-- the process without its settled pages from `first` up to, and without, `end`
abbrev pub without_pages : Process → ℕ → ℕ → Process
without_pages p first end = record p { settled = only (λ page. nat_lt page first || nat_le end page) p.settled }

-- the page up to which the heap may grow: the first page of the lowest mapping, which is the first of the list, or the
-- trapframe's
abbrev pub heap_limit : Scheme → List Region → ℕ
heap_limit s [] = trapframe_page s
heap_limit s (m ∷ ms) = m.first

-- the process with a new size: pages above it are released, so a page that the heap regains later is settled anew
abbrev pub resized : Process → ℕ → Process
resized p size = record (without_pages p (pages_for size) (pages_for p.size)) { size = size }

-- the requested size, an integer that may be negative
abbrev pub wanted_size : Process → ℤ → ℤ
wanted_size p delta = pos p.size +ℤ delta

abbrev pub size_refusal : Process → ℤ → Option Refusal
size_refusal p wanted = first_true (
    (int_lt wanted (pos p.heap_base), BadSize)
    ∷ (nat_lt (heap_limit p.scheme p.mappings) (pages_for (nat_abs wanted)), NoRoom)
    ∷ [])

abbrev pub resized_unless : Process → ℕ → Option Refusal → Result Process Refusal
resized_unless p size None = Ok (resized p size)
resized_unless p size (Some r) = Err r

-- sbrk (the xv6 book, "Page-fault exceptions"): no frame is taken. Refused with BadSize (own choice) or NoRoom, the first
-- that applies in this order
unfoldable pub sbrk_result : Process → ℤ → Result Process Refusal
sbrk_result p delta = let wanted = wanted_size p delta in resized_unless p (nat_abs wanted) (size_refusal p wanted)
