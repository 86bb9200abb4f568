-- Program images: the segments that an image loads (`LoadSegment`), or the first check that it fails (`BadImage`); for an
-- ELF file (as xv6's exec reads it, `elf_loads`) and for a list of segments (`segment_loads`). Also the ELF header fields
-- that are read.
use Rattle.std.specs.Prelude.{ℕ, Bool, true, false, not, ◌+◌, ◌*◌, ◌/◌, ◌%◌, ◌^◌, nat_le, nat_lt, ◌==◌, ◌&&◌, if◌then◌else◌, Option, None}
use Rattle.std.specs.Prelude.{Some, Result, Ok, Err, List, [], ◌∷◌, take, drop, length, map, fold, ◌++◌}
use Rattle.process_model.specs.Bytes.{pages_for, number, numbers_from, first_true}
use Rattle.sv39_entry.specs.Address.{page_of}
use Rattle.sv39_entry.specs.Schemes.{trapframe_page}
use Rattle.sv39_entry.specs.declared.scheme.Scheme.{Scheme}
use Rattle.process_model.specs.declared.image.BadImage.{BadImage}
use Rattle.process_model.specs.declared.image.BadImage.TheVariants as part
use Rattle.process_model.specs.declared.image.Image.{Image}
use Rattle.process_model.specs.declared.image.Image.TheVariants.{Elf, Segments}
use Rattle.process_model.specs.declared.image.Segment.{Segment}
use Rattle.process_model.specs.declared.limits.TheConstants.{GUARD_PAGES, LONGEST_IMAGE, MOST_SEGMENTS, STACK_PAGES}

-- a segment to load: its address and size in memory, its rights, and the bytes that the image has for it
pub record LoadSegment : Type 0 where
  pub address : ℕ
  pub memory_size : ℕ
  pub file_size : ℕ
  pub writes : Bool
  pub executes : Bool
  -- whether its bytes lie inside the image
  pub inside : Bool
  pub bytes : List ℕ

-- a program header: it lies outside the image, is of a type that exec skips, or describes a segment to load
pub data ProgramHeader : Type 0 where
  outside : ProgramHeader
  passed_over : ProgramHeader
  load : LoadSegment → ProgramHeader

abbrev pub has_pages : LoadSegment → Bool
has_pages l = nat_lt 0 l.memory_size

-- the page after the segment's last one
abbrev pub end_page : LoadSegment → ℕ
end_page l = pages_for (l.address + l.memory_size)

-- the page after the last of the segments; `end` if there are none
abbrev pub end_of_loads : ℕ → List LoadSegment → ℕ
end_of_loads end [] = end
end_of_loads end (l ∷ ls) = end_of_loads (end_page l) ls

-- the checks of a segment, each true if it fails, in their order; `before` has the segments with pages before it. Between it
-- and the trapframe there has to be room for guard and stack (TooHigh)
abbrev pub load_checks : Scheme → List LoadSegment → LoadSegment → List (Bool × BadImage)
load_checks s before l =
    (nat_lt l.memory_size l.file_size, part.Sizes)
    ∷ (nat_le (2 ^ 64) (l.address + l.memory_size), part.Wraps)
    ∷ (not (l.address % 4096 == 0), part.Align)
    ∷ (has_pages l && not l.inside, part.Contents)
    ∷ (has_pages l && nat_lt (trapframe_page s) (end_page l + (GUARD_PAGES + STACK_PAGES)), part.TooHigh)
    ∷ (has_pages l && nat_lt (page_of l.address) (end_of_loads 0 before), part.Order)
    ∷ (has_pages l && nat_le MOST_SEGMENTS (length before), part.TooMany)
    ∷ []

-- the first check that a segment fails; None if it passes all
abbrev pub load_fault : Scheme → List LoadSegment → LoadSegment → Option BadImage
load_fault s before l = first_true (load_checks s before l)

-- the segments with one more; a segment without pages is skipped
abbrev pub with_load : List LoadSegment → LoadSegment → List LoadSegment
with_load before l = if has_pages l then before ++ l ∷ [] else before

abbrev pub unless_faulty : List LoadSegment → LoadSegment → Option BadImage → Result (List LoadSegment) BadImage
unless_faulty before l (Some e) = Err e
unless_faulty before l None = Ok (with_load before l)

abbrev pub judged : Scheme → List LoadSegment → ProgramHeader → Result (List LoadSegment) BadImage
judged s before outside = Err part.ProgramHeader
judged s before passed_over = Ok before
judged s before (load l) = unless_faulty before l (load_fault s before l)

-- one program header more, unless an earlier one failed a check
abbrev pub next_judged : Scheme → Result (List LoadSegment) BadImage → ProgramHeader → Result (List LoadSegment) BadImage
next_judged s (Ok before) h = judged s before h
next_judged s (Err e) h = Err e

-- NoLoad if there is no segment with pages
abbrev pub at_least_one : Result (List LoadSegment) BadImage → Result (List LoadSegment) BadImage
at_least_one (Ok []) = Err part.NoLoad
at_least_one (Ok (l ∷ ls)) = Ok (l ∷ ls)
at_least_one (Err e) = Err e

abbrev pub all_judged : Scheme → List ProgramHeader → Result (List LoadSegment) BadImage
all_judged s hs = at_least_one (fold (next_judged s) (Ok []) hs)

-- the fields of an ELF file are little-endian

abbrev pub field : List ℕ → ℕ → ℕ → ℕ
field bytes at n = number (drop at bytes) n

-- a program header has 56 bytes: type at 0, flags at 4 (execute 1, write 2), offset at 8, address at 16, size in the file
-- at 32, size in memory at 40
abbrev pub load_at : List ℕ → ℕ → LoadSegment
load_at bytes at =
    let flags = field bytes (at + 4) 4 in
    let offset = field bytes (at + 8) 8 in
    let file_size = field bytes (at + 32) 8 in
    record {
      address = field bytes (at + 16) 8;
      memory_size = field bytes (at + 40) 8;
      file_size = file_size;
      writes = flags / 2 % 2 == 1;
      executes = flags % 2 == 1;
      inside = nat_le (offset + file_size) (length bytes);
      bytes = take file_size (drop offset bytes);
    }

-- a header of type 1 (LOAD) describes a segment; the others are skipped
abbrev pub header_if_load : List ℕ → ℕ → Bool → ProgramHeader
header_if_load bytes at true = load (load_at bytes at)
header_if_load bytes at false = passed_over

abbrev pub header_if_inside : List ℕ → ℕ → Bool → ProgramHeader
header_if_inside bytes at true = header_if_load bytes at (field bytes at 4 == 1)
header_if_inside bytes at false = outside

abbrev pub header_at : List ℕ → ℕ → ProgramHeader
header_at bytes at = header_if_inside bytes at (nat_le (at + 56) (length bytes))

-- n program headers, one after the other, from an offset on
abbrev pub headers_from : List ℕ → ℕ → ℕ → List ProgramHeader
headers_from bytes offset n = map (λ k. header_at bytes (offset + 56 * k)) (numbers_from 0 n)

-- the bytes 7f 45 4c 46, as a little-endian number
abbrev pub elf_magic : ℕ
elf_magic = 0x464c457f

abbrev pub file_fault : List ℕ → Option BadImage
file_fault bytes = first_true (
    (nat_lt LONGEST_IMAGE (length bytes), part.TooLong)
    ∷ (nat_lt (length bytes) 64, part.Header)
    ∷ (not (field bytes 0 4 == elf_magic), part.Magic)
    ∷ [])

abbrev pub loads_unless : Scheme → List ℕ → Option BadImage → Result (List LoadSegment) BadImage
loads_unless s bytes (Some e) = Err e
loads_unless s bytes None = all_judged s (headers_from bytes (field bytes 32 8) (field bytes 56 2))

-- the segments of an ELF file, or the first check that it fails. In the file header, the 8 bytes at 32 are the offset of the
-- program headers, and the 2 bytes at 56 their number
unfoldable pub elf_loads : Scheme → List ℕ → Result (List LoadSegment) BadImage
elf_loads s bytes = loads_unless s bytes (file_fault bytes)

abbrev pub load_of : Segment → ProgramHeader
load_of s = load (record {
  address = s.address;
  memory_size = s.memory_size;
  file_size = length s.bytes;
  writes = s.writes;
  executes = s.executes;
  inside = true;
  bytes = s.bytes;
})

unfoldable pub segment_loads : Scheme → List Segment → Result (List LoadSegment) BadImage
segment_loads s segments = all_judged s (map load_of segments)

abbrev pub image_loads : Scheme → Image → Result (List LoadSegment) BadImage
image_loads s (Elf bytes) = elf_loads s bytes.now
image_loads s (Segments segments) = segment_loads s segments.now
