-- Tests that under the policy of ASIDs no stale TLB entry serves an access after a fork, a first store, or in a slot used
-- again, while others are kept over a switch. Scripts with their answers (`Plays`).
use Rattle.std.proofs.Common.{refl, [], ◌∷◌}
use Rattle.std.specs.Prelude.{◌++◌}
use Rattle.script_laws.proofs.Forks.{forked_on_another_hart}
use Rattle.script_laws.proofs.Openings.{entered, faults_once, running, started, started_again}
use Rattle.script_laws.proofs.Playing.{Plays, silent, ◌⇒◌}

fork_leaves_no_old_entry : Plays (running "boot 1 64 4 asid"
    ++ "fill 0 0x1000" ⇒ "entry 0"
    ∷ "enter 0" ⇒ "ok" ∷ "leave 0" ⇒ "ok" ∷ "load 0 0x1000 1 @0" ⇒ "value 0x0"
    ∷ "enter 0" ⇒ "ok" ∷ "fork 0" ⇒ "slot 1"
    ∷ "leave 0" ⇒ "ok" ∷ "load 0 0x1000 1 @0" ⇒ "refused 20 NoEntry" ∷ [])
fork_leaves_no_old_entry = unfold Plays in refl

entries_on_two_harts_with_numbers : Plays (forked_on_another_hart "boot 2 64 4 asid")
entries_on_two_harts_with_numbers = unfold Plays in refl

slot_that_is_used_again : Plays (running "boot 1 64 4 asid"
    ++ "store 0 0x1000 1 0x41" ⇒ "stored"
    ∷ "fill 0 0x1000" ⇒ "entry 0"
    ∷ "enter 0" ⇒ "ok" ∷ "exit 0 0" ⇒ "exited 0"
    ∷ started_again
    ++ "load 0 0x1000 1 @0" ⇒ "refused 20 NoEntry"
    ∷ "load 0 0x1000 1" ⇒ "value 0x0" ∷ [])
slot_that_is_used_again = unfold Plays in refl

entry_that_is_kept : Plays (started "boot 1 64 4 asid"
    ++ "start 0" ⇒ "slot 1"
    ∷ "on 0 0" ⇒ "ok" ∷ "fill 0 0x1000" ⇒ "entry 0"
    ∷ "enter 0" ⇒ "ok" ∷ "on 0 1" ⇒ "ok" ∷ "load 0 0x1000 1 @0" ⇒ "refused 20 NoEntry"
    ∷ "enter 0" ⇒ "ok" ∷ "on 0 0" ⇒ "ok" ∷ "load 0 0x1000 1 @0" ⇒ "value 0x0" ∷ [])
entry_that_is_kept = unfold Plays in refl

-- the dirty mark is in the leaf too
first_store_leaves_no_old_entry : Plays (silent "file 16 rw -" ∷ entered "boot 1 64 4 asid"
    ++ "mmap 0 16 3 1 0" ⇒ "at 0x3fffffd000"
    ∷ "leave 0" ⇒ "ok" ∷ faults_once "load 0 0x3fffffd000 1" "fault 13" "value 0x0"
    ++ "fill 0 0x3fffffd000" ⇒ "entry 0"
    ∷ "load 0 0x3fffffd000 1 @0" ⇒ "value 0x0"
    ∷ faults_once "store 0 0x3fffffd000 1 5 @0" "fault 15" "refused 20 NoEntry"
    ++ "store 0 0x3fffffd000 1 5" ⇒ "stored" ∷ [])
first_store_leaves_no_old_entry = unfold Plays in refl
