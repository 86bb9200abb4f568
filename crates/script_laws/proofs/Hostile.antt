-- Tests that frames run out exactly one below what exec, a heap page with its tables or copyout needs; and that hostile
-- images (17 segments, greatest sizes, offsets and counts, all memory) are refused. Scripts with their answers (`Plays`).
use Prim.Native.String.{String}
use Rattle.std.proofs.Common.{refl, [], ◌∷◌}
use Rattle.std.specs.Fmt.{digits}
use Rattle.std.specs.Prelude.{ℕ, false, ◌*◌, List, ◌++◌, codes, flat_map}
use Rattle.script_laws.proofs.ElfFiles.{elf, exec_is_refused, smallest}
use Rattle.script_laws.proofs.Openings.{running_from, standard_image, started_from, switched, switched_from}
use Rattle.script_laws.proofs.Playing.{Line, Plays, numbers_from, silent, unanswered, ◌⇒◌}

-- an image of so many segments, a page each, at 0x0, 0x1000, ..
abbrev image_of_segments : ℕ → Line
image_of_segments count =
    unanswered (codes "image" ++ flat_map (λ n. codes " 0x" ++ digits 16 false (0x1000 * n) ++ codes ":0x1000:rw:-") (numbers_from 0 count))

sixteen_segments : Plays (running_from (image_of_segments 16 ∷ []) "boot 1 64 4 full" ++ "load 0 0xf000 8" ⇒ "value 0x0" ∷ [])
sixteen_segments = unfold Plays in refl

seventeen_segments : Plays (image_of_segments 17 ∷ "boot 1 64 4 full" ⇒ "ok" ∷ "start 0" ⇒ "refused 12 BadImage TooMany" ∷ [])
seventeen_segments = unfold Plays in refl

greatest_size_in_memory : Plays (exec_is_refused (elf (record smallest { memory_size = "ffffffffffffffff" })) "refused 12 BadImage TooHigh")
greatest_size_in_memory = unfold Plays in refl

greatest_offset : Plays (exec_is_refused (elf (record smallest { offset = "ffffffffffffffff" })) "refused 12 BadImage Contents")
greatest_offset = unfold Plays in refl

most_program_headers : Plays (exec_is_refused (elf (record smallest { header_count = "ffff" })) "refused 12 BadImage ProgramHeader")
most_program_headers = unfold Plays in refl

greatest_offset_of_headers : Plays (
    exec_is_refused (elf (record smallest { headers_offset = "ffffffffffffffff" })) "refused 12 BadImage ProgramHeader")
greatest_offset_of_headers = unfold Plays in refl

empty_segment_not_on_a_page : Plays (exec_is_refused
    (elf (record smallest { address = "0110000000000000"; file_size = "0000000000000000"; memory_size = "0000000000000000" }))
    "refused 12 BadImage Align")
empty_segment_not_on_a_page = unfold Plays in refl

exec_with_its_eight_frames : Plays (started_from (standard_image ∷ elf smallest ∷ []) "boot 1 26 1 full"
    ++ "audit" ⇒ "free 8 held 18 shared 1 references 19"
    ∷ "switch 0 0" ⇒ "ok" ∷ "exec 0 0" ⇒ "refused 9 NoFrame"
    ∷ "exec 0 1" ⇒ "ok"
    ∷ "audit" ⇒ "free 10 held 16 shared 1 references 17" ∷ [])
exec_with_its_eight_frames = unfold Plays in refl

exec_with_seven_frames : Plays (switched_from (standard_image ∷ elf smallest ∷ []) "boot 1 25 1 full"
    ++ "exec 0 1" ⇒ "refused 9 NoFrame"
    ∷ "leave 0" ⇒ "ok" ∷ "fetch 0 0x0" ⇒ "value 0x513" ∷ [])
exec_with_seven_frames = unfold Plays in refl

-- after this `boot` the heap grows by a gigabyte; a load there faults, and its service is answered so
abbrev heap_load : String → String → String → List Line
heap_load boot load answer = switched boot
    ++ "sbrk 0 0x40000000" ⇒ "old 0x5000"
    ∷ "leave 0" ⇒ "ok" ∷ load ⇒ "fault 13"
    ∷ "fix 0" ⇒ answer ∷ []

one_frame_for_a_page : Plays (heap_load "boot 1 19 1 full" "load 0 0x5000 1" "ready")
one_frame_for_a_page = unfold Plays in refl

no_frame_for_a_page : Plays (heap_load "boot 1 18 1 full" "load 0 0x5000 1" "ended 9 NoFrame")
no_frame_for_a_page = unfold Plays in refl

two_frames_for_page_and_table : Plays (heap_load "boot 1 20 1 full" "load 0 0x200000 1" "ready")
two_frames_for_page_and_table = unfold Plays in refl

one_frame_for_page_and_table : Plays (heap_load "boot 1 19 1 full" "load 0 0x200000 1" "ended 9 NoFrame")
one_frame_for_page_and_table = unfold Plays in refl

three_frames_for_page_and_tables : Plays (heap_load "boot 1 21 1 full" "load 0 0x40000000 1" "ready")
three_frames_for_page_and_tables = unfold Plays in refl

two_frames_for_page_and_tables : Plays (heap_load "boot 1 20 1 full" "load 0 0x40000000 1" "ended 9 NoFrame")
two_frames_for_page_and_tables = unfold Plays in refl

-- after this `boot` and a fork, copyout of two bytes on each of two pages is answered so
abbrev copy_over_pages : String → String → List Line
copy_over_pages boot answer = switched boot ++ "fork 0" ⇒ "slot 1" ∷ "copyout 0 0x1ffe 01020304" ⇒ answer ∷ []

copy_over_two_pages : Plays (copy_over_pages "boot 1 27 2 full" "copied 4")
copy_over_two_pages = unfold Plays in refl

copy_over_one_page_of_two : Plays (copy_over_pages "boot 1 26 2 full" "short 9 NoFrame done 2")
copy_over_one_page_of_two = unfold Plays in refl

copy_over_no_page_of_two : Plays (copy_over_pages "boot 1 25 2 full" "short 9 NoFrame done 0")
copy_over_no_page_of_two = unfold Plays in refl

-- 67,108,860 pages are the most that pass the checks
image_of_all_memory : Plays (
    standard_image
    ∷ silent "image 0x0:0x3fffffc000:r:-"
    ∷ silent "image 0x0:0x3fffffc001:r:-"
    ∷ "boot 1 1024 1 full" ⇒ "ok"
    ∷ "start 1" ⇒ "refused 9 NoFrame"
    ∷ "start 2" ⇒ "refused 12 BadImage TooHigh"
    ∷ "start 0" ⇒ "slot 0"
    ∷ "on 0 0" ⇒ "ok" ∷ "enter 0" ⇒ "ok" ∷ "exec 0 1" ⇒ "refused 9 NoFrame"
    ∷ "leave 0" ⇒ "ok" ∷ "fetch 0 0x0" ⇒ "value 0x513" ∷ [])
image_of_all_memory = unfold Plays in refl
