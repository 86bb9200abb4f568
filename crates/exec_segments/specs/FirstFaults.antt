-- Which program header or segment is the first that fails a check (`IsFirstFaulty`), and the headers of an image (`headers_in`).
use Rattle.std.specs.Prelude.{◌≡◌, ℕ, List, [], map, fold, take, Some, Ok, IsErr, slice_get}
use Rattle.process_model.specs.Images.{LoadSegment, ProgramHeader, field, headers_from, judged, load_of, next_judged}
use Rattle.process_model.specs.declared.image.Image.{Image}
use Rattle.process_model.specs.declared.image.Image.TheVariants.{Elf, Segments}
use Rattle.sv39_entry.specs.declared.scheme.Scheme.{Scheme}

-- the program headers of an ELF file, or the segments of a list
abbrev pub headers_in : Image → List ProgramHeader
headers_in (Elf bytes) = headers_from bytes.now (field bytes.now 32 8) (field bytes.now 56 2)
headers_in (Segments segments) = map load_of segments.now

-- those before this one pass every check, and this one fails one
pub record IsFirstFaulty (z : Scheme) (headers : List ProgramHeader) (number : ℕ) : Type 0 where
  pub before : List LoadSegment
  pub header : ProgramHeader
  pub there : slice_get headers number ≡ Some header
  pub passed : fold (next_judged z) (Ok []) (take number headers) ≡ Ok before
  pub fails : IsErr (judged z before header)
