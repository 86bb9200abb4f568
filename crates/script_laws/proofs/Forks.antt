-- Tests that copy-on-write fork keeps stores apart, takes a frame only while a page is shared, leaves no writable TLB entry
-- on another hart, and is refused without a slot or frames; a store without a frame ends its process. Scripts with their
-- answers (`Plays`).
use Prim.Native.String.{String}
use Rattle.std.proofs.Common.{refl, [], ◌∷◌}
use Rattle.std.specs.Prelude.{List, ◌++◌}
use Rattle.script_laws.proofs.Openings.{ends, faults_once, running, switched}
use Rattle.script_laws.proofs.Playing.{Line, Plays, ◌⇒◌}

-- the child's store is not the parent's, and takes one frame
child_stores_apart : Plays (running "boot 1 64 4 full"
    ++ "store 0 0x1000 1 0x11" ⇒ "stored"
    ∷ "enter 0" ⇒ "ok" ∷ "fork 0" ⇒ "slot 1"
    ∷ "audit" ⇒ "free 37 held 27 shared 6 references 34"
    ∷ "on 0 1" ⇒ "ok" ∷ faults_once "store 0 0x1000 1 0x55" "fault 15" "stored"
    ++ "audit" ⇒ "free 36 held 28 shared 5 references 34"
    ∷ "enter 0" ⇒ "ok" ∷ "on 0 0" ⇒ "ok" ∷ "load 0 0x1000 1" ⇒ "value 0x11" ∷ [])
child_stores_apart = unfold Plays in refl

-- after the other ended, no frame is taken
last_sharer_stores_in_place : Plays (running "boot 1 64 4 full"
    ++ "store 0 0x1000 1 0x11" ⇒ "stored"
    ∷ "enter 0" ⇒ "ok" ∷ "fork 0" ⇒ "slot 1"
    ∷ "audit" ⇒ "free 37 held 27 shared 6 references 34"
    ∷ "on 0 1" ⇒ "ok" ∷ "enter 0" ⇒ "ok" ∷ "exit 0 0" ⇒ "exited 0"
    ∷ "audit" ⇒ "free 43 held 21 shared 1 references 22"
    ∷ "on 0 0" ⇒ "ok" ∷ faults_once "store 0 0x1000 1 0x12" "fault 15" "stored"
    ++ "audit" ⇒ "free 43 held 21 shared 1 references 22" ∷ [])
last_sharer_stores_in_place = unfold Plays in refl

-- a fork on another hart leaves no entry behind that could store
abbrev pub forked_on_another_hart : String → List Line
forked_on_another_hart boot = running boot
    ++ "store 0 0x1000 1 0x41" ⇒ "stored"
    ∷ "fill 0 0x1000" ⇒ "entry 0"
    ∷ "load 0 0x1000 1 @0" ⇒ "value 0x41"
    ∷ "enter 0" ⇒ "ok" ∷ "switch 0 -" ⇒ "ok" ∷ "switch 1 0" ⇒ "ok" ∷ "fork 1" ⇒ "slot 1"
    ∷ "switch 1 -" ⇒ "ok" ∷ "on 0 0" ⇒ "ok" ∷ "store 0 0x1000 1 0x42 @0" ⇒ "refused 20 NoEntry"
    ∷ faults_once "store 0 0x1000 1 0x42" "fault 15" "stored"
    ++ "on 1 1" ⇒ "ok" ∷ "load 1 0x1000 1" ⇒ "value 0x41" ∷ []

entries_on_two_harts : Plays (forked_on_another_hart "boot 2 64 4 full")
entries_on_two_harts = unfold Plays in refl

no_frame_for_the_first_store : Plays (switched "boot 2 25 2 full"
    ++ "fork 0" ⇒ "slot 1"
    ∷ "audit" ⇒ "free 0 held 25 shared 6 references 32"
    ∷ "leave 0" ⇒ "ok" ∷ ends "store 0 0x1000 1 7" "fault 15" "ended 9 NoFrame"
    ++ "audit" ⇒ "free 6 held 19 shared 1 references 20"
    ∷ "on 1 1" ⇒ "ok" ∷ "store 1 0x1000 1 8" ⇒ "fault 15"
    ∷ "fix 1" ⇒ "ready"
    ∷ "store 1 0x1000 1 8" ⇒ "stored"
    ∷ "audit" ⇒ "free 6 held 19 shared 1 references 20" ∷ [])
no_frame_for_the_first_store = unfold Plays in refl

fork_without_frames : Plays (switched "boot 1 24 2 full"
    ++ "fork 0" ⇒ "refused 9 NoFrame"
    ∷ "audit" ⇒ "free 5 held 19 shared 1 references 20"
    ∷ "leave 0" ⇒ "ok" ∷ "store 0 0x1000 1 1" ⇒ "stored" ∷ [])
fork_without_frames = unfold Plays in refl

fork_judges_the_slot_first : Plays (switched "boot 1 23 1 full" ++ "fork 0" ⇒ "refused 10 NoSlot" ∷ [])
fork_judges_the_slot_first = unfold Plays in refl
