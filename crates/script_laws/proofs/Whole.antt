-- Tests that whole scripts are read: `boot` alone, blanks, comments, carriage returns, single steps (`Plays`, lines with
-- answers); and that faulty ones are refused with line and cause: no or a second `boot`, wrong fields of `boot`
-- (`IsRefused`).
use Rattle.std.proofs.Common.{refl, [], ◌∷◌}
use Rattle.std.specs.Prelude.{◌++◌}
use Rattle.script_language.specs.declared.script.Cause.TheVariants as cause
use Rattle.script_laws.proofs.Openings.{one_page_image, switched_from}
use Rattle.script_laws.proofs.Playing.{IsRefused, Plays, silent, ◌⇒◌}

boot_alone : Plays ("boot 1 64 58 full" ⇒ "ok" ∷ [])
boot_alone = unfold Plays in refl

boot_without_a_line_feed : Plays ("boot 1 64 58 full" ⇒ "ok" ∷ [])
boot_without_a_line_feed = unfold Plays in refl

empty_script : IsRefused [] 1 cause.Order
empty_script = unfold IsRefused in refl

too_few_fields : IsRefused (silent "boot 1 64" ∷ []) 1 cause.Count
too_few_fields = unfold IsRefused in refl

no_such_policy : IsRefused (silent "boot 1 64 4 fast" ∷ []) 1 cause.Field
no_such_policy = unfold IsRefused in refl

more_frames_than_there_are : IsRefused (silent "boot 1 64 59 full" ∷ []) 1 cause.Limits
more_frames_than_there_are = unfold IsRefused in refl

second_boot : IsRefused (silent "boot 1 64 4 full" ∷ silent "boot 1 64 4 full" ∷ []) 2 cause.Order
second_boot = unfold IsRefused in refl

comment_and_tab : Plays (
    "boot 1 64 58 full\r" ⇒ "ok"
    ∷ silent "# x\r"
    ∷ "audit\r" ⇒ "free 0 held 64 shared 0 references 64" ∷ [])
comment_and_tab = unfold Plays in refl

comment_between_tabs : Plays (
    "\tboot\t1 64\t \t58 full \t\r" ⇒ "ok"
    ∷ silent "\t# x\r"
    ∷ " \taudit\t\r" ⇒ "free 0 held 64 shared 0 references 64" ∷ [])
comment_between_tabs = unfold Plays in refl

tab_before_a_return : Plays (
    "boot\t1\t64\t58\tfull\t\r" ⇒ "ok"
    ∷ silent "#\tx\t\r"
    ∷ "\taudit" ⇒ "free 0 held 64 shared 0 references 64" ∷ [])
tab_before_a_return = unfold Plays in refl

steps_one_by_one : Plays (switched_from (one_page_image ∷ []) "boot 1 64 1 full"
    ++ "next 0" ⇒ "ok"
    ∷ "next 0" ⇒ "ok"
    ∷ "next 0" ⇒ "ok"
    ∷ "store 0 0x1000 8 0x1122334455667788" ⇒ "stored"
    ∷ "load 0 0x1000 8" ⇒ "value 0x1122334455667788"
    ∷ "load 0 0x1004 2" ⇒ "value 0x3344" ∷ [])
steps_one_by_one = unfold Plays in refl

fifth_field_of_boot : IsRefused (silent "boot 1 64 4 full sv40" ∷ []) 1 cause.Field
fifth_field_of_boot = unfold IsRefused in refl
