-- ELF files of the rows, as the hexadecimal text of their fields: the smallest image that starts, and what varies in the
-- others. Also the lines of an exec that is refused.
use Prim.Native.String.{String}
use Rattle.std.specs.Prelude.{ℕ, List, [], ◌∷◌, ◌++◌, codes}
use Rattle.script_laws.proofs.Openings.{running_from, standard_image}
use Rattle.script_laws.proofs.Playing.{Line, answered, numbered, unanswered, ◌⇒◌}

-- the fields that vary: of the file's header, and from `kind` on of a program header
pub record ElfFields : Type 0 where
  pub magic : String
  pub headers_offset : String
  pub header_count : String
  pub kind : String
  pub offset : String
  pub address : String
  pub file_size : String
  pub memory_size : String

-- one page at 0, whose four bytes stand behind the headers
abbrev pub smallest : ElfFields
smallest = record {
  magic = "7f454c46";
  headers_offset = "4000000000000000";
  header_count = "0100";
  kind = "01000000";
  offset = "7800000000000000";
  address = "0000000000000000";
  file_size = "0400000000000000";
  memory_size = "0010000000000000";
}

abbrev file_header : ElfFields → List ℕ
file_header f = codes f.magic ++ codes "0201010000000000000000000200f300010000000000000000000000" ++ codes f.headers_offset
    ++ codes "00000000000000000000000040003800" ++ codes f.header_count ++ codes "000000000000"

abbrev program_header : ElfFields → List ℕ
program_header f = codes f.kind ++ codes "05000000" ++ codes f.offset ++ codes f.address ++ codes "0000000000000000"
    ++ codes f.file_size ++ codes f.memory_size ++ codes "0010000000000000"

-- a file with one program header, and one with the same program header twice

abbrev pub elf_text : ElfFields → List ℕ
elf_text f = file_header f ++ program_header f ++ codes "13050000"

abbrev pub elf : ElfFields → Line
elf f = unanswered (codes "elf " ++ elf_text f)

abbrev pub elf_with_two : ElfFields → Line
elf_with_two f = unanswered (codes "elf " ++ file_header f ++ program_header f ++ program_header f ++ codes "13050000")

-- a process of the standard image has stored a value and entered the kernel; these images are declared behind its own
abbrev pub stored_before_exec : List Line → List Line
stored_before_exec images = running_from (standard_image ∷ images) "boot 1 64 4 full"
    ++ "store 0 0x1000 8 0x1122334455667788" ⇒ "stored"
    ∷ "enter 0" ⇒ "ok" ∷ []

-- exec of image n is answered so, and the old process goes on
abbrev pub exec_goes_back : ℕ → String → List Line
exec_goes_back n answer =
    answered (numbered "exec 0 " n) (codes answer)
    ∷ "leave 0" ⇒ "ok" ∷ "fetch 0 0x0" ⇒ "value 0x513"
    ∷ "load 0 0x1000 8" ⇒ "value 0x1122334455667788"
    ∷ "enter 0" ⇒ "ok" ∷ []

-- exec of this image is refused so, and the old process goes on
abbrev pub exec_is_refused : Line → String → List Line
exec_is_refused image refusal = stored_before_exec (image ∷ []) ++ exec_goes_back 1 refusal
