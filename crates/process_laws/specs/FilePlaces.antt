-- Functions for mappings of files: the file, and the offset in it, that a page of a region maps (`file_place`, by `place_in`
-- of a source); and the bytes and the length of a file of a list (`file_bytes`, `file_length`).
use Rattle.std.specs.Prelude.{ℕ, ◌+◌, ◌-◌, ◌*◌, Option, None, Some, List, length, slice_get}
use Rattle.process_model.specs.Files.{File, bytes_of}
use Rattle.process_model.specs.Regions.{Region, Source, file}

-- the number of a file, and the offset in it of the byte that is `at` bytes into a region; None if the region is of no file
abbrev pub place_in : Source → ℕ → Option (ℕ × ℕ)
place_in (file n offset) at = Some (n, offset + at)
place_in _ at = None

-- the number of a file, and the offset in it at which a page of a region begins
abbrev pub file_place : Region → ℕ → Option (ℕ × ℕ)
file_place r page = place_in r.source (4096 * (page - r.first))

-- the bytes of a file; empty if there is no such file
abbrev pub file_bytes : List File → ℕ → List ℕ
file_bytes files n = bytes_of (slice_get files n)

abbrev pub file_length : List File → ℕ → ℕ
file_length files n = length (file_bytes files n)
