-- Tests that ELF images start and replace a process by exec, the highest that fits too; that exec with too few frames is
-- refused, and a bad image with the check that it fails, at start and by exec, one after the other too, and that after such
-- an exec the old process goes on. Scripts with their answers (`Plays`).
use Prim.Native.String.{String}
use Rattle.std.proofs.Common.{refl, [], ◌∷◌}
use Rattle.std.specs.Prelude.{List, ◌++◌}
use Rattle.script_laws.proofs.ElfFiles.{elf, elf_with_two, exec_goes_back, exec_is_refused, smallest, stored_before_exec}
use Rattle.script_laws.proofs.Openings.{running_from, standard_image, switched, switched_from}
use Rattle.script_laws.proofs.Playing.{Line, Plays, silent, ◌⇒◌}

smallest_image_starts : Plays (running_from (elf smallest ∷ []) "boot 1 64 4 full"
    ++ "fetch 0 0x0" ⇒ "value 0x513"
    ∷ "fetch 0 0x4" ⇒ "value 0x0" ∷ [])
smallest_image_starts = unfold Plays in refl

smallest_image_replaces : Plays (switched_from (standard_image ∷ elf smallest ∷ []) "boot 1 64 4 full"
    ++ "exec 0 1" ⇒ "ok"
    ∷ "leave 0" ⇒ "ok" ∷ "fetch 0 0x0" ⇒ "value 0x513"
    ∷ "fetch 0 0x4" ⇒ "value 0x0" ∷ [])
smallest_image_replaces = unfold Plays in refl

highest_image : Plays (running_from (elf (record smallest { address = "00b0ffff3f000000" }) ∷ []) "boot 1 64 4 full"
    ++ "fetch 0 0x3fffffb000" ⇒ "value 0x513"
    ∷ "fetch 0 0x3fffffb004" ⇒ "value 0x0"
    ∷ "load 0 0x3fffffd000 8" ⇒ "value 0x0" ∷ [])
highest_image = unfold Plays in refl

-- the old process goes on
exec_without_frames : Plays (switched "boot 1 24 1 full"
    ++ "exec 0 0" ⇒ "refused 9 NoFrame"
    ∷ "leave 0" ⇒ "ok" ∷ "fetch 0 0x0" ⇒ "value 0x513" ∷ [])
exec_without_frames = unfold Plays in refl

-- the bad images, each by how it differs from the smallest

abbrev magic_7e : Line
magic_7e = elf (record smallest { magic = "7e454c46" })

-- three bytes in memory of four in the file
abbrev small_memory : Line
small_memory = elf (record smallest { memory_size = "0300000000000000" })

-- the last page of 2 ^ 64 bytes
abbrev last_address : Line
last_address = elf (record smallest { address = "00f0ffffffffffff" })

abbrev address_0x1001 : Line
address_0x1001 = elf (record smallest { address = "0110000000000000" })

-- no room for its guard and stack
abbrev high_address : Line
high_address = elf (record smallest { address = "00d0ffff3f000000" })

abbrev other_kind : Line
other_kind = elf (record smallest { kind = "02000000" })

abbrev no_header : Line
no_header = elf (record smallest { header_count = "0000" })

abbrev no_memory : Line
no_memory = elf (record smallest { file_size = "0000000000000000"; memory_size = "0000000000000000" })

-- the same page twice
abbrev same_segment_twice : Line
same_segment_twice = elf_with_two (record smallest { header_count = "0200"; offset = "b000000000000000" })

-- start of each

abbrev start_is_refused : Line → String → List Line
start_is_refused image refusal = image ∷ "boot 1 64 4 full" ⇒ "ok" ∷ "start 0" ⇒ refusal ∷ []

start_of_another_magic : Plays (start_is_refused magic_7e "refused 12 BadImage Magic")
start_of_another_magic = unfold Plays in refl

start_of_smaller_in_memory : Plays (start_is_refused small_memory "refused 12 BadImage Sizes")
start_of_smaller_in_memory = unfold Plays in refl

start_past_the_last_address : Plays (start_is_refused last_address "refused 12 BadImage Wraps")
start_past_the_last_address = unfold Plays in refl

start_not_on_a_page : Plays (start_is_refused address_0x1001 "refused 12 BadImage Align")
start_not_on_a_page = unfold Plays in refl

start_too_high : Plays (start_is_refused high_address "refused 12 BadImage TooHigh")
start_too_high = unfold Plays in refl

start_of_no_load_header : Plays (start_is_refused other_kind "refused 12 BadImage NoLoad")
start_of_no_load_header = unfold Plays in refl

start_of_no_program_header : Plays (start_is_refused no_header "refused 12 BadImage NoLoad")
start_of_no_program_header = unfold Plays in refl

start_of_empty_segment : Plays (start_is_refused no_memory "refused 12 BadImage NoLoad")
start_of_empty_segment = unfold Plays in refl

start_out_of_order : Plays (start_is_refused same_segment_twice "refused 12 BadImage Order")
start_out_of_order = unfold Plays in refl

-- exec of each, and of two files that are too short

no_bytes : Plays (exec_is_refused (silent "elf -") "refused 12 BadImage Header")
no_bytes = unfold Plays in refl

part_of_a_header : Plays (exec_is_refused
    (silent "elf 7f454c460201010000000000000000000200f30001000000000000000000000040000000000000000000000000000000000000004000380001000000000000")
    "refused 12 BadImage Header")
part_of_a_header = unfold Plays in refl

another_magic : Plays (exec_is_refused magic_7e "refused 12 BadImage Magic")
another_magic = unfold Plays in refl

smaller_in_memory : Plays (exec_is_refused small_memory "refused 12 BadImage Sizes")
smaller_in_memory = unfold Plays in refl

past_the_last_address : Plays (exec_is_refused last_address "refused 12 BadImage Wraps")
past_the_last_address = unfold Plays in refl

not_on_a_page : Plays (exec_is_refused address_0x1001 "refused 12 BadImage Align")
not_on_a_page = unfold Plays in refl

too_high : Plays (exec_is_refused high_address "refused 12 BadImage TooHigh")
too_high = unfold Plays in refl

no_load_header : Plays (exec_is_refused other_kind "refused 12 BadImage NoLoad")
no_load_header = unfold Plays in refl

no_program_header : Plays (exec_is_refused no_header "refused 12 BadImage NoLoad")
no_program_header = unfold Plays in refl

empty_segment : Plays (exec_is_refused no_memory "refused 12 BadImage NoLoad")
empty_segment = unfold Plays in refl

segments_out_of_order : Plays (exec_is_refused same_segment_twice "refused 12 BadImage Order")
segments_out_of_order = unfold Plays in refl

-- each is refused with its part, and the old process goes on
every_bad_image_in_a_row : Plays (stored_before_exec (
    magic_7e ∷ small_memory ∷ last_address ∷ address_0x1001 ∷ high_address ∷ other_kind ∷ no_header ∷ no_memory ∷ same_segment_twice ∷ [])
    ++ exec_goes_back 1 "refused 12 BadImage Magic"
    ++ exec_goes_back 2 "refused 12 BadImage Sizes"
    ++ exec_goes_back 3 "refused 12 BadImage Wraps"
    ++ exec_goes_back 4 "refused 12 BadImage Align"
    ++ exec_goes_back 5 "refused 12 BadImage TooHigh"
    ++ exec_goes_back 6 "refused 12 BadImage NoLoad"
    ++ exec_goes_back 7 "refused 12 BadImage NoLoad"
    ++ exec_goes_back 8 "refused 12 BadImage NoLoad"
    ++ exec_goes_back 9 "refused 12 BadImage Order")
every_bad_image_in_a_row = unfold Plays in refl
