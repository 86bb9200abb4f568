-- Tests that, in one process with one region, what was stored is loaded; that a misaligned store and one to the guard page
-- fault; that a step on a hart that does not exist, and a start with too few frames, are refused. Scripts with their answers
-- (`Plays`).
use Rattle.std.proofs.Common.{refl, [], ◌∷◌}
use Rattle.std.specs.Prelude.{List, ◌++◌}
use Rattle.script_laws.proofs.Openings.{one_page_image, running_from}
use Rattle.script_laws.proofs.Playing.{Line, Plays, silent, ◌⇒◌}

abbrev one_page_running : List Line
one_page_running = running_from (one_page_image ∷ []) "boot 1 64 1 full"

-- what was stored is loaded, and a part of it
store_and_load : Plays (one_page_running
    ++ "store 0 0x1000 8 0x1122334455667788" ⇒ "stored"
    ∷ "load 0 0x1000 8" ⇒ "value 0x1122334455667788"
    ∷ "load 0 0x1004 2" ⇒ "value 0x3344" ∷ [])
store_and_load = unfold Plays in refl

-- a misaligned store faults, and the hart is in the entry
misaligned_store : Plays (one_page_running
    ++ "store 0 0x1ffc 8 1" ⇒ "fault 6"
    ∷ "load 0 0x1000 8" ⇒ "refused 19 Impossible enter0" ∷ [])
misaligned_store = unfold Plays in refl

-- no region holds the page after the last one: that is the guard
past_the_segment : Plays (one_page_running ++ "store 0 0x2000 1 1" ⇒ "fault 15" ∷ [])
past_the_segment = unfold Plays in refl

no_such_hart_after_a_fault : Plays (one_page_running
    ++ "store 0 0x2000 1 1" ⇒ "fault 15"
    ∷ "load 1 0x1000 8" ⇒ "refused 15 BadArgument" ∷ [])
no_such_hart_after_a_fault = unfold Plays in refl

no_such_hart : Plays (one_page_running ++ "load 1 0x1000 8" ⇒ "refused 15 BadArgument" ∷ [])
no_such_hart = unfold Plays in refl

-- the image needs more than are free
too_few_frames : Plays (silent "image 0x1000:0x9000:rw:-" ∷ "boot 1 18 1 full" ⇒ "ok" ∷ "start 0" ⇒ "refused 9 NoFrame" ∷ [])
too_few_frames = unfold Plays in refl
