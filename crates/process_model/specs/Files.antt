-- `File`: a file of fixed length, its bytes and whether it may be written; reading a page of 4,096 bytes from an offset on,
-- and writing one without changing the file's length.
use Rattle.std.specs.Prelude.{ℕ, Bool, false, ◌&&◌, nat_le, Option, None, Some, slice_get, slice_set, List, [], length, take, drop}
use Rattle.process_model.specs.Bytes.{padded, write_bytes}
use Rattle.process_model.specs.declared.file.FileText.{FileText}
use Rattle.process_model.specs.declared.limits.TheConstants.{LONGEST_FILE}

pub record File : Type 0 where
  pub bytes : List ℕ
  pub writable : Bool

abbrev pub bytes_of : Option File → List ℕ
bytes_of None = []
bytes_of (Some f) = f.bytes

abbrev pub is_writable : Option File → Bool
is_writable None = false
is_writable (Some f) = f.writable

-- 4,096 bytes: those of file n from an offset on, zeros past its end
abbrev pub file_page : List File → ℕ → ℕ → List ℕ
file_page files n offset = padded 4096 (drop offset (bytes_of (slice_get files n)))

-- bytes with a page written over them from an offset on, up to their length
abbrev pub written_over : List ℕ → ℕ → List ℕ → List ℕ
written_over bytes offset page = take (length bytes) (write_bytes bytes offset page)

abbrev pub with_file_at : List File → ℕ → Option File → ℕ → List ℕ → List File
with_file_at files n None offset page = files
with_file_at files n (Some f) offset page = slice_set files n (record f { bytes = written_over f.bytes offset page })

-- the files after a page is written to file n, from an offset on; unchanged if there is no file n
abbrev pub with_page_written : List File → ℕ → ℕ → List ℕ → List File
with_page_written files n offset page = with_file_at files n (slice_get files n) offset page

-- declared files

abbrev pub fits_file : FileText → Bool
fits_file f = nat_le f.length LONGEST_FILE && nat_le (length f.bytes) f.length

-- a declared file: its first bytes, and zeros up to its length
abbrev pub file_of : FileText → File
file_of f = record { bytes = padded f.length f.bytes; writable = f.writable }
