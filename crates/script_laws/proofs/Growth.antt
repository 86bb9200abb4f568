-- Tests that sbrk takes no frame, a heap page takes its frames at the first access, a released page returns as zeros; that
-- NoFrame, NoRoom and BadSize are reported; and what the regions of an image grant. Scripts with their answers (`Plays`).
use Prim.Native.String.{String}
use Rattle.std.proofs.Common.{refl, [], ◌∷◌}
use Rattle.std.specs.Prelude.{List, ◌++◌}
use Rattle.script_laws.proofs.ElfFiles.{elf, smallest}
use Rattle.script_laws.proofs.Openings.{ends, entered, faults_once, running_from, started_again}
use Rattle.script_laws.proofs.Playing.{Line, Plays, ◌⇒◌}

-- a heap that grew takes a frame at the first access
heap_page_on_demand : Plays (entered "boot 1 24 1 full"
    ++ "audit" ⇒ "free 6 held 18 shared 1 references 19"
    ∷ "sbrk 0 0x100000" ⇒ "old 0x5000"
    ∷ "audit" ⇒ "free 6 held 18 shared 1 references 19"
    ∷ "leave 0" ⇒ "ok" ∷ faults_once "load 0 0x104ff8 8" "fault 13" "value 0x0"
    ++ "audit" ⇒ "free 5 held 19 shared 1 references 20"
    ∷ ends "load 0 0x105000 1" "fault 13" "ended 5 NoRegion"
    ++ "audit" ⇒ "free 17 held 7 shared 0 references 7" ∷ [])
heap_page_on_demand = unfold Plays in refl

-- a page that was released and returns is zeros
returned_page_is_zeros : Plays (entered "boot 1 64 4 full"
    ++ "sbrk 0 0x1000" ⇒ "old 0x5000"
    ∷ "leave 0" ⇒ "ok" ∷ faults_once "store 0 0x5000 1 9" "fault 15" "stored"
    ++ "enter 0" ⇒ "ok" ∷ "sbrk 0 -0x1000" ⇒ "old 0x6000"
    ∷ "sbrk 0 0x1000" ⇒ "old 0x5000"
    ∷ "leave 0" ⇒ "ok" ∷ faults_once "load 0 0x5000 1" "fault 13" "value 0x0"
    ++ "enter 0" ⇒ "ok" ∷ "sbrk 0 -0x2000" ⇒ "refused 13 BadSize" ∷ [])
returned_page_is_zeros = unfold Plays in refl

no_frame_is_left : Plays (entered "boot 1 18 1 full"
    ++ "audit" ⇒ "free 0 held 18 shared 1 references 19"
    ∷ "sbrk 0 0x1000" ⇒ "old 0x5000"
    ∷ "leave 0" ⇒ "ok" ∷ ends "load 0 0x5000 1" "fault 13" "ended 9 NoFrame"
    ++ "audit" ⇒ "free 11 held 7 shared 0 references 7" ∷ [])
no_frame_is_left = unfold Plays in refl

-- one frame is free, and the heap has grown; a load there faults, and its service is answered so
abbrev one_frame_for : String → String → List Line
one_frame_for load answer = entered "boot 1 19 1 full"
    ++ "sbrk 0 0x200000" ⇒ "old 0x5000"
    ∷ "leave 0" ⇒ "ok" ∷ load ⇒ "fault 13"
    ∷ "fix 0" ⇒ answer ∷ []

one_frame_for_one_needed : Plays (one_frame_for "load 0 0x5000 1" "ready")
one_frame_for_one_needed = unfold Plays in refl

one_frame_for_two_needed : Plays (one_frame_for "load 0 0x200000 1" "ended 9 NoFrame")
one_frame_for_two_needed = unfold Plays in refl

heap_up_to_the_trapframe : Plays (entered "boot 1 64 4 full"
    ++ "sbrk 0 0x3fffffe000" ⇒ "refused 14 NoRoom"
    ∷ "sbrk 0 0x3fffff9000" ⇒ "old 0x5000"
    ∷ "sbrk 0 1" ⇒ "refused 14 NoRoom"
    ∷ "leave 0" ⇒ "ok" ∷ faults_once "load 0 0x3fffffd000 1" "fault 13" "value 0x0")
heap_up_to_the_trapframe = unfold Plays in refl

-- text, guard and stack, and gaps are granted to nobody
regions_of_the_smallest_image : Plays (running_from (elf smallest ∷ []) "boot 1 64 4 full"
    ++ "store 0 0x2ff8 8 1" ⇒ "stored"
    ∷ "load 0 0x2ff8 8" ⇒ "value 0x1"
    ∷ ends "fetch 0 0x2000" "fault 12" "ended 8 NoExec"
    ++ started_again ++ ends "store 0 0x0 8 1" "fault 15" "ended 7 NoWrite"
    ++ started_again ++ ends "load 0 0x1000 1" "fault 13" "ended 4 GuardPage"
    ++ started_again ++ ends "load 0 0x3000 1" "fault 13" "ended 5 NoRegion"
    ++ started_again ++ "enter 0" ⇒ "ok" ∷ "sbrk 0 0" ⇒ "old 0x3000"
    ∷ "sbrk 0 -1" ⇒ "refused 13 BadSize" ∷ [])
regions_of_the_smallest_image = unfold Plays in refl
