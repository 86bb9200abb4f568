-- Tests that an access denied by a rule faults and its service ends the process by that rule: GuardPage, KernelPage,
-- BeyondMax, NoWrite, NoExec, Misaligned; and that a fetch of text is granted. Scripts with their answers (`Plays`).
use Rattle.std.proofs.Common.{refl, [], ◌∷◌}
use Rattle.std.specs.Prelude.{◌++◌}
use Rattle.script_laws.proofs.Openings.{ends, running, started_again}
use Rattle.script_laws.proofs.Playing.{Plays, ◌⇒◌}

guard_then_kernel_then_maximum : Plays (running "boot 1 64 4 full"
    ++ ends "load 0 0x3000 1" "fault 13" "ended 4 GuardPage"
    ++ started_again ++ ends "load 0 0x3ffffff000 1" "fault 13" "ended 3 KernelPage"
    ++ started_again ++ ends "load 0 0x4000000000 1" "fault 13" "ended 2 BeyondMax")
guard_then_kernel_then_maximum = unfold Plays in refl

guard_page : Plays (running "boot 1 64 4 full" ++ ends "load 0 0x3000 1" "fault 13" "ended 4 GuardPage")
guard_page = unfold Plays in refl

kernel_page : Plays (running "boot 1 64 4 full" ++ ends "load 0 0x3ffffff000 1" "fault 13" "ended 3 KernelPage")
kernel_page = unfold Plays in refl

beyond_the_maximum : Plays (running "boot 1 64 4 full" ++ ends "load 0 0x4000000000 1" "fault 13" "ended 2 BeyondMax")
beyond_the_maximum = unfold Plays in refl

rights_and_alignment : Plays (running "boot 1 64 4 full"
    ++ ends "store 0 0x0 8 1" "fault 15" "ended 7 NoWrite"
    ++ started_again ++ ends "fetch 0 0x1000" "fault 12" "ended 8 NoExec"
    ++ started_again ++ ends "load 0 0x1004 8" "fault 4" "ended 1 Misaligned"
    ++ started_again ++ "fetch 0 0x0" ⇒ "value 0x513" ∷ [])
rights_and_alignment = unfold Plays in refl

no_write : Plays (running "boot 1 64 4 full" ++ ends "store 0 0x0 8 1" "fault 15" "ended 7 NoWrite")
no_write = unfold Plays in refl

no_execute : Plays (running "boot 1 64 4 full" ++ ends "fetch 0 0x1000" "fault 12" "ended 8 NoExec")
no_execute = unfold Plays in refl

misaligned_load : Plays (running "boot 1 64 4 full" ++ ends "load 0 0x1004 8" "fault 4" "ended 1 Misaligned")
misaligned_load = unfold Plays in refl

fetch_of_text : Plays (running "boot 1 64 4 full" ++ "fetch 0 0x0" ⇒ "value 0x513" ∷ [])
fetch_of_text = unfold Plays in refl
