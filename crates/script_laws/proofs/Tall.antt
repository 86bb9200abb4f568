-- Tests that machines under Sv48, four levels of page tables, count frames, deny addresses and place mappings by its sizes
-- (`Plays`, lines with answers), and that a `boot` with wrong sizes or scheme is refused (`IsRefused`).
use Rattle.std.proofs.Common.{refl, [], ◌∷◌}
use Rattle.std.specs.Prelude.{◌++◌}
use Rattle.script_language.specs.declared.script.Cause.TheVariants as cause
use Rattle.script_laws.proofs.Openings.{ends, entered, running, started_again, switched}
use Rattle.script_laws.proofs.Playing.{IsRefused, Plays, silent, ◌⇒◌}

fork_takes_eight_frames : Plays (switched "boot 1 64 4 full sv48"
    ++ "audit" ⇒ "free 39 held 25 shared 1 references 26"
    ∷ "fork 0" ⇒ "slot 1"
    ∷ "audit" ⇒ "free 31 held 33 shared 6 references 40" ∷ [])
fork_takes_eight_frames = unfold Plays in refl

no_region_past_the_lower_end : Plays (running "boot 1 64 4 full sv48"
    ++ ends "load 0 0x4000000000 1" "fault 13" "ended 5 NoRegion"
    ++ started_again ++ ends "load 0 0x7ffffffff000 1" "fault 13" "ended 3 KernelPage"
    ++ started_again ++ ends "load 0 0x800000000000 1" "fault 13" "ended 2 BeyondMax")
no_region_past_the_lower_end = unfold Plays in refl

mapping_below_the_trapframe : Plays (
    silent "file 5000 rw -" ∷ entered "boot 1 64 4 full sv48" ++ "mmap 0 6000 3 1 0" ⇒ "at 0x7fffffffc000" ∷ [])
mapping_below_the_trapframe = unfold Plays in refl

fifty_six_slots : Plays ("boot 1 64 56 full sv48" ⇒ "ok" ∷ "audit" ⇒ "free 0 held 64 shared 0 references 64" ∷ [])
fifty_six_slots = unfold Plays in refl

fifty_seven_slots : IsRefused ("boot 1 64 57 full sv48" ⇒ "" ∷ []) 1 cause.Limits
fifty_seven_slots = unfold IsRefused in refl

another_word : IsRefused ("boot 1 64 4 full sv57" ⇒ "" ∷ []) 1 cause.Field
another_word = unfold IsRefused in refl

six_fields : IsRefused ("boot 1 64 4 full sv39 full" ⇒ "" ∷ []) 1 cause.Count
six_fields = unfold IsRefused in refl
