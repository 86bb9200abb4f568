-- The physical memory of a walk as functions of physical page number and index: `Memory` (the 64-bit word, None outside) and
-- `Extent` (which words are inside). Then whether a byte is inside, the physical address that a leaf gives, and the memory
-- of a list of words (`plain_memory`).
use Rattle.std.specs.Prelude.{ℕ, ◌+◌, ◌*◌, ◌/◌, ◌%◌, ◌^◌, Bool, Option, is_some, List, slice_get, option_and_then}
use Rattle.sv39_entry.specs.Frame.{frame_at}
use Rattle.sv39_entry.specs.Word.{ppn}

-- the word at an index of the frame with a physical page number; None outside the memory
abbrev pub Memory : Type 0
Memory = ℕ → ℕ → Option ℕ

-- which words are inside the memory, known or not
abbrev pub Extent : Type 0
Extent = ℕ → ℕ → Bool

-- the byte at a physical address is inside the memory
abbrev pub has_byte : Extent → ℕ → Bool
has_byte there address = there (address / 4096) (address % 4096 / 8)

-- the physical address that a leaf at a level gives to a virtual address: the address of its frame, plus the low 12 + 9 *
-- level bits of the virtual address (the standard, 4.3.2, step 8)
abbrev pub physical_address : ℕ → ℕ → ℕ → ℕ
physical_address leaf level address = ppn leaf * 4096 + address % 2 ^ (12 + 9 * level)

-- the words of the frames from frame 0 on, one after another
abbrev pub plain_memory : List ℕ → Memory
plain_memory words ppn index = option_and_then (λ frame. slice_get words (frame.0 * 512 + index)) (frame_at ppn)

abbrev pub plain_extent : List ℕ → Extent
plain_extent words ppn index = is_some (plain_memory words ppn index)
