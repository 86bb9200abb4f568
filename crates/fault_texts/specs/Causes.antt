-- The causes that come from one field of a line (`OfField`), and those that come after its word was found (`AfterWord`).
use Rattle.script_language.specs.declared.script.Cause.{Cause}
use Rattle.script_language.specs.declared.script.Cause.TheVariants as cause

abbrev pub OfField : Cause → Type 0
OfField cause.Number = Unit {0}
OfField cause.Field = Unit {0}
OfField _ = ⊥

abbrev pub AfterWord : Cause → Type 0
AfterWord cause.TooLong = ⊥
AfterWord cause.NotAscii = ⊥
AfterWord cause.Word = ⊥
AfterWord _ = Unit {0}
