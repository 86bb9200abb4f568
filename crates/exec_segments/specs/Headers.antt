-- Program headers of an ELF file: the model's header for one of the code (`header_of`); that a segment has at most as many
-- bytes as its size in the file (`HasAtMostFileSize`); and at which offset a header lies, if it lies inside the file
-- (`IsHeaderPlace`).
use Rattle.std.specs.Prelude.{◌≡◌, ℕ, ◌+◌, ◌<◌, ◌≤◌, List, length, Option, None, Some}
use Rattle.process_model.specs.Images.{ProgramHeader, load, outside, passed_over}
use Rattle.exec_segments.specs.Loads.{load_of}
use Rattle.exec_segments.specs.declared.elf.Header.{Header}
use Rattle.exec_segments.specs.declared.elf.Header.TheVariants as variant

-- the model's program header for one of the code
abbrev pub header_of : Header → ProgramHeader
header_of variant.Outside = outside
header_of variant.PassedOver = passed_over
header_of (variant.Load l) = load (load_of l)

-- if the header describes a segment, this has at most `file_size` bytes
abbrev pub HasAtMostFileSize : Header → Type 0
HasAtMostFileSize (variant.Load l) = length l.bytes.now ≤ l.file_size
HasAtMostFileSize _ = Unit {0}

-- the place of a header at an offset: the offset, if 56 bytes from there on lie inside the file, and else none
abbrev pub IsHeaderPlace : List ℕ → ℕ → Option ℕ → Type 0
IsHeaderPlace bytes at (Some here) = (here ≡ at) × (at + 56 ≤ length bytes)
IsHeaderPlace bytes at None = length bytes < at + 56
