-- Tests that kernel copies (copyin, copyout) stop at the guard page, or if frames run out, after the bytes before it, and
-- that copyout after a fork takes the page over (copies it) first. Scripts with their answers (`Plays`).
use Rattle.std.proofs.Common.{refl, [], ◌∷◌}
use Rattle.std.specs.Prelude.{◌++◌}
use Rattle.script_laws.proofs.Openings.{entered, switched}
use Rattle.script_laws.proofs.Playing.{Plays, ◌⇒◌}

stop_at_the_guard : Plays (entered "boot 1 64 4 full"
    ++ "copyout 0 0x2ff8 00112233445566778899aabbccddeeff" ⇒ "short 4 GuardPage done 8"
    ∷ "copyin 0 0x2ffc 8" ⇒ "short 4 GuardPage done 4 44556677"
    ∷ "copyin 0 0x3000 0" ⇒ "copied 0 -" ∷ [])
stop_at_the_guard = unfold Plays in refl

copy_out_parts_a_page : Plays (switched "boot 1 64 4 full"
    ++ "fork 0" ⇒ "slot 1"
    ∷ "copyout 0 0x1000 55" ⇒ "copied 1"
    ∷ "audit" ⇒ "free 36 held 28 shared 5 references 34"
    ∷ "on 0 1" ⇒ "ok" ∷ "load 0 0x1000 1" ⇒ "value 0x0" ∷ [])
copy_out_parts_a_page = unfold Plays in refl

stop_without_a_frame : Plays (switched "boot 1 26 2 full"
    ++ "fork 0" ⇒ "slot 1"
    ∷ "copyout 0 0x1ffe 01020304" ⇒ "short 9 NoFrame done 2"
    ∷ "copyin 0 0x1ffe 4" ⇒ "copied 4 01020000" ∷ [])
stop_without_a_frame = unfold Plays in refl
