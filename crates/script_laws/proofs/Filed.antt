-- Tests that mmap of a file finds a place or is refused, munmap leaves no hole, and write-back takes only pages of shared
-- mappings that were stored to, also after a fork, at exit and beside another process. Scripts with their answers (`Plays`).
use Prim.Native.String.{String}
use Rattle.std.proofs.Common.{refl, [], ◌∷◌}
use Rattle.std.specs.Prelude.{List, ◌++◌, map}
use Rattle.script_laws.proofs.Openings.{ends, entered, faults_once, standard_image, started_from}
use Rattle.script_laws.proofs.Playing.{Line, Plays, silent, ◌⇒◌}

-- a process maps this file, shared and writable, at the highest page, and is in user mode
abbrev shared_mapping : String → List Line
shared_mapping file = silent file ∷ entered "boot 1 64 4 full" ++ "mmap 0 16 3 1 0" ⇒ "at 0x3fffffd000" ∷ "leave 0" ⇒ "ok" ∷ []

-- the same, beside a second process
abbrev shared_mapping_of_two : String → List Line
shared_mapping_of_two file = started_from (silent file ∷ standard_image ∷ []) "boot 1 64 4 full"
    ++ "start 0" ⇒ "slot 1"
    ∷ "on 0 0" ⇒ "ok" ∷ "enter 0" ⇒ "ok" ∷ "mmap 0 16 3 1 0" ⇒ "at 0x3fffffd000"
    ∷ "leave 0" ⇒ "ok" ∷ []

-- up to the file's length; the first store to a page that was loaded faults
shared_mapping_goes_back : Plays (silent "file 5000 rw 6162" ∷ entered "boot 1 64 4 full"
    ++ "mmap 0 6000 3 1 0" ⇒ "at 0x3fffffc000"
    ∷ "leave 0" ⇒ "ok" ∷ faults_once "load 0 0x3fffffd388 1" "fault 13" "value 0x0"
    ++ faults_once "store 0 0x3fffffd387 1 0x7a" "fault 15" "stored"
    ++ "store 0 0x3fffffd388 1 0x7b" ⇒ "stored"
    ∷ "enter 0" ⇒ "ok" ∷ "munmap 0 0x3fffffc000 6000" ⇒ "ok"
    ∷ "show 0 4998 4" ⇒ "file 5000 007a"
    ∷ "show 0 0 2" ⇒ "file 5000 6162" ∷ [])
shared_mapping_goes_back = unfold Plays in refl

private_mapping_of_a_read_only_file : Plays (silent "file 5000 ro -" ∷ entered "boot 1 64 4 full"
    ++ "mmap 0 4096 3 1 0" ⇒ "refused 16 FileNotWritable"
    ∷ "mmap 0 12288 3 2 0" ⇒ "at 0x3fffffb000"
    ∷ "munmap 0 0x3fffffc000 4096" ⇒ "refused 18 HoleInMapping"
    ∷ "munmap 0 0x3fffffb000 4096" ⇒ "ok"
    ∷ "leave 0" ⇒ "ok" ∷ ends "load 0 0x3fffffb000 1" "fault 13" "ended 5 NoRegion")
private_mapping_of_a_read_only_file = unfold Plays in refl

shared_mapping_after_a_fork : Plays (shared_mapping "file 16 rw -"
    ++ faults_once "store 0 0x3fffffd000 1 1" "fault 15" "stored"
    ++ "enter 0" ⇒ "ok" ∷ "fork 0" ⇒ "slot 1"
    ∷ "on 0 1" ⇒ "ok" ∷ faults_once "store 0 0x3fffffd001 1 2" "fault 15" "stored"
    ++ "enter 0" ⇒ "ok" ∷ "switch 0 0" ⇒ "ok" ∷ "munmap 0 0x3fffffd000 16" ⇒ "ok"
    ∷ "show 0 0 2" ⇒ "file 16 0100" ∷ [])
shared_mapping_after_a_fork = unfold Plays in refl

-- the child's page, which it never stored to, does not go back over the parent's
only_stored_pages_go_back : Plays (shared_mapping "file 16 rw -"
    ++ faults_once "store 0 0x3fffffd000 1 5" "fault 15" "stored"
    ++ "enter 0" ⇒ "ok" ∷ "fork 0" ⇒ "slot 1"
    ∷ "leave 0" ⇒ "ok" ∷ faults_once "store 0 0x3fffffd000 1 6" "fault 15" "stored"
    ++ "enter 0" ⇒ "ok" ∷ "munmap 0 0x3fffffd000 16" ⇒ "ok"
    ∷ "switch 0 1" ⇒ "ok" ∷ "exit 0 0" ⇒ "exited 0"
    ∷ "show 0 0 1" ⇒ "file 16 06" ∷ [])
only_stored_pages_go_back = unfold Plays in refl

first_fit_from_the_top : Plays (silent "file 4096 ro -" ∷ entered "boot 1 64 4 full"
    ++ "mmap 0 4096 1 2 0" ⇒ "at 0x3fffffd000"
    ∷ "sbrk 0 0x3fffff8000" ⇒ "old 0x5000"
    ∷ "sbrk 0 1" ⇒ "refused 14 NoRoom"
    ∷ "mmap 0 4096 1 2 0" ⇒ "refused 14 NoRoom"
    ∷ "munmap 0 0x3fffffd000 4096" ⇒ "ok"
    ∷ "mmap 0 4096 1 2 0" ⇒ "at 0x3fffffd000" ∷ [])
first_fit_from_the_top = unfold Plays in refl

-- sixteen pages from the highest down
sixteen_mappings : Plays (silent "file 4096 ro -" ∷ entered "boot 1 64 4 full"
    ++ map (λ answer. "mmap 0 4096 1 2 0" ⇒ answer) (
    "at 0x3fffffd000" ∷ "at 0x3fffffc000" ∷ "at 0x3fffffb000" ∷ "at 0x3fffffa000"
    ∷ "at 0x3fffff9000" ∷ "at 0x3fffff8000" ∷ "at 0x3fffff7000" ∷ "at 0x3fffff6000"
    ∷ "at 0x3fffff5000" ∷ "at 0x3fffff4000" ∷ "at 0x3fffff3000" ∷ "at 0x3fffff2000"
    ∷ "at 0x3fffff1000" ∷ "at 0x3fffff0000" ∷ "at 0x3ffffef000" ∷ "at 0x3ffffee000"
    ∷ "refused 17 MappingsFull" ∷ []))
sixteen_mappings = unfold Plays in refl

bad_mappings : Plays (silent "file 4096 ro -" ∷ entered "boot 1 64 4 full"
    ++ "mmap 0 0 1 2 0" ⇒ "refused 15 BadArgument"
    ∷ "mmap 0 4096 0 2 0" ⇒ "refused 15 BadArgument"
    ∷ "mmap 0 4096 1 3 0" ⇒ "refused 15 BadArgument"
    ∷ "mmap 0 4096 1 2 1" ⇒ "refused 15 BadArgument" ∷ [])
bad_mappings = unfold Plays in refl

-- what was written back is what a later mapping reads, of another process too
later_mapping_reads_what_was_written : Plays (shared_mapping_of_two "file 16 rw 6162"
    ++ faults_once "store 0 0x3fffffd001 1 0x7a" "fault 15" "stored"
    ++ "enter 0" ⇒ "ok" ∷ "munmap 0 0x3fffffd000 16" ⇒ "ok"
    ∷ "on 0 1" ⇒ "ok" ∷ "enter 0" ⇒ "ok" ∷ "mmap 0 16 1 2 0" ⇒ "at 0x3fffffd000"
    ∷ "leave 0" ⇒ "ok" ∷ faults_once "load 0 0x3fffffd000 2" "fault 13" "value 0x7a61")
later_mapping_reads_what_was_written = unfold Plays in refl

-- a page that was only loaded does not go back over what another process wrote since
loaded_page_stays_away : Plays (shared_mapping_of_two "file 16 rw -"
    ++ faults_once "load 0 0x3fffffd000 1" "fault 13" "value 0x0"
    ++ "enter 0" ⇒ "ok" ∷ "on 0 1" ⇒ "ok" ∷ "enter 0" ⇒ "ok" ∷ "mmap 0 16 3 1 0" ⇒ "at 0x3fffffd000"
    ∷ "copyout 0 0x3fffffd000 09" ⇒ "copied 1"
    ∷ "munmap 0 0x3fffffd000 16" ⇒ "ok"
    ∷ "on 0 0" ⇒ "ok" ∷ "load 0 0x3fffffd000 1" ⇒ "value 0x0"
    ∷ "enter 0" ⇒ "ok" ∷ "exit 0 0" ⇒ "exited 0"
    ∷ "show 0 0 1" ⇒ "file 16 09" ∷ [])
loaded_page_stays_away = unfold Plays in refl

-- a page that was loaded and then forked wants both marks changed: one fault is enough, and the dirty mark takes no frame
one_fault_for_both_marks : Plays (shared_mapping "file 16 rw -"
    ++ faults_once "load 0 0x3fffffd000 1" "fault 13" "value 0x0"
    ++ "enter 0" ⇒ "ok" ∷ "fork 0" ⇒ "slot 1"
    ∷ "leave 0" ⇒ "ok" ∷ "audit" ⇒ "free 36 held 28 shared 7 references 36"
    ∷ faults_once "store 0 0x3fffffd000 1 5" "fault 15" "stored"
    ++ "audit" ⇒ "free 35 held 29 shared 6 references 36"
    ∷ "enter 0" ⇒ "ok" ∷ "on 0 1" ⇒ "ok" ∷ faults_once "store 0 0x3fffffd001 1 6" "fault 15" "stored"
    ++ "audit" ⇒ "free 35 held 29 shared 6 references 36" ∷ [])
one_fault_for_both_marks = unfold Plays in refl
