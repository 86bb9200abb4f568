-- Whether a machine can boot with the values of a `boot` line (`boots`), and whether a script may have one more line with a word
-- (`has_room_for`).
use Rattle.std.specs.Prelude.{Bool, true, List, length, nat_lt, slice_get}
use Rattle.process_model.specs.Frames.{can_boot}
use Rattle.process_model.specs.declared.limits.TheConstants.{MOST_FILES}
use Rattle.script_language.specs.Script.{Draft, as_scheme, number_at}
use Rattle.script_language.specs.declared.script.FieldValue.{FieldValue}
use Rattle.script_language.specs.declared.script.Keyword.{Keyword}
use Rattle.script_language.specs.declared.script.Keyword.TheVariants as word
use Rattle.script_language.specs.declared.limits.TheConstants.{MOST_COMMANDS, MOST_IMAGES}

abbrev pub boots : List FieldValue → Bool
boots vs = can_boot (as_scheme (slice_get vs 4)) (number_at vs 0) (number_at vs 1) (number_at vs 2)

abbrev pub has_room_for : Draft → Keyword → Bool
has_room_for d word.File = nat_lt (length d.files) MOST_FILES
has_room_for d word.Image = nat_lt (length d.images) MOST_IMAGES
has_room_for d word.Elf = nat_lt (length d.images) MOST_IMAGES
has_room_for d word.Boot = true
has_room_for d _ = nat_lt (length d.commands) MOST_COMMANDS
