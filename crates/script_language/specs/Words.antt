-- Definitions of printed text: phases, checks of images, causes, refusals, replies and reports; bytes and hexadecimal
-- numbers.
use Rattle.std.specs.Prelude.{ℕ, ◌/◌, ◌%◌, false, List, [], ◌∷◌, ◌++◌, length, codes}
use Rattle.std.specs.Fmt.{decimal, signed_decimal, digits, digit_glyph}
use Rattle.std.specs.List.{flat_map}
use Rattle.sv39_entry.specs.RuleText.{rule_text}
use Rattle.process_model.specs.declared.phase.Phase.{Phase}
use Rattle.process_model.specs.declared.phase.Phase.TheVariants as phase
use Rattle.process_model.specs.declared.image.BadImage.{BadImage}
use Rattle.process_model.specs.declared.image.BadImage.TheVariants as part
use Rattle.script_language.specs.declared.script.Cause.{Cause}
use Rattle.script_language.specs.declared.script.Cause.TheVariants as cause
use Rattle.process_model.specs.declared.reply.Refusal.{Refusal}
use Rattle.process_model.specs.declared.reply.Refusal.TheVariants as refusal
use Rattle.process_model.specs.declared.reply.Reply.{Reply}
use Rattle.process_model.specs.declared.reply.ScalarReply.TheVariants as scalar
use Rattle.process_model.specs.declared.reply.Reply.TheVariants as reply
use Rattle.process_model.specs.declared.step.Report.{Report}

-- 0x and lower-case digits without leading zeros
abbrev pub hexadecimal : ℕ → List ℕ
hexadecimal n = codes "0x" ++ digits 16 false n

-- two lower-case digits
abbrev pub two_digits : ℕ → List ℕ
two_digits b = digit_glyph false (b / 16) ∷ digit_glyph false (b % 16) ∷ []

-- each byte as two digits, - for none
abbrev pub bytes_text : List ℕ → List ℕ
bytes_text [] = codes "-"
bytes_text (b ∷ bytes) = flat_map two_digits (b ∷ bytes)

abbrev pub phase_text : Phase → List ℕ
phase_text phase.Idle = codes "idle"
phase_text phase.User = codes "user"
phase_text phase.Enter0 = codes "enter0"
phase_text phase.Enter1 = codes "enter1"
phase_text phase.Enter2 = codes "enter2"
phase_text phase.Kernel = codes "kernel"
phase_text phase.Leave1 = codes "leave1"
phase_text phase.Leave2 = codes "leave2"

abbrev pub part_text : BadImage → List ℕ
part_text part.TooLong = codes "TooLong"
part_text part.Header = codes "Header"
part_text part.Magic = codes "Magic"
part_text part.ProgramHeader = codes "ProgramHeader"
part_text part.Sizes = codes "Sizes"
part_text part.Wraps = codes "Wraps"
part_text part.Align = codes "Align"
part_text part.Contents = codes "Contents"
part_text part.TooHigh = codes "TooHigh"
part_text part.Order = codes "Order"
part_text part.TooMany = codes "TooMany"
part_text part.NoLoad = codes "NoLoad"

abbrev pub cause_text : Cause → List ℕ
cause_text cause.TooLong = codes "TooLong"
cause_text cause.NotAscii = codes "NotAscii"
cause_text cause.Word = codes "Word"
cause_text cause.Order = codes "Order"
cause_text cause.Count = codes "Count"
cause_text cause.Number = codes "Number"
cause_text cause.Field = codes "Field"
cause_text cause.Limits = codes "Limits"
cause_text cause.TooMany = codes "TooMany"

-- the number and the name of a refusal, with its check or phase
abbrev pub refusal_text : Refusal → List ℕ
refusal_text refusal.NoFrame = codes "9 NoFrame"
refusal_text refusal.NoSlot = codes "10 NoSlot"
refusal_text refusal.SharersFull = codes "11 SharersFull"
refusal_text (refusal.BadImage p) = codes "12 BadImage " ++ part_text p
refusal_text refusal.BadSize = codes "13 BadSize"
refusal_text refusal.NoRoom = codes "14 NoRoom"
refusal_text refusal.BadArgument = codes "15 BadArgument"
refusal_text refusal.FileNotWritable = codes "16 FileNotWritable"
refusal_text refusal.MappingsFull = codes "17 MappingsFull"
refusal_text refusal.HoleInMapping = codes "18 HoleInMapping"
refusal_text (refusal.Impossible p) = codes "19 Impossible " ++ phase_text p
refusal_text refusal.NoEntry = codes "20 NoEntry"
refusal_text refusal.Memory = codes "21 Memory"
refusal_text refusal.JournalFull = codes "22 JournalFull"

abbrev pub reply_text : Reply → List ℕ
reply_text (reply.Scalar scalar.Done) = codes "ok"
reply_text (reply.Scalar (scalar.Started s)) = codes "slot " ++ decimal s
reply_text (reply.Scalar (scalar.Forked s)) = codes "slot " ++ decimal s
reply_text (reply.Scalar (scalar.Value v)) = codes "value " ++ hexadecimal v
reply_text (reply.Scalar scalar.Stored) = codes "stored"
reply_text (reply.Scalar (scalar.Fault c)) = codes "fault " ++ decimal c
reply_text (reply.Scalar (scalar.Filled n)) = codes "entry " ++ decimal n
reply_text (reply.Scalar scalar.NothingFilled) = codes "nothing"
reply_text (reply.Scalar (scalar.InFrame f)) = codes "frame " ++ decimal f
reply_text (reply.Scalar scalar.Ready) = codes "ready"
reply_text (reply.Scalar (scalar.Ended r)) = codes "ended " ++ rule_text r
reply_text (reply.Scalar (scalar.OldSize n)) = codes "old " ++ hexadecimal n
reply_text (reply.Scalar (scalar.MappedAt a)) = codes "at " ++ hexadecimal a
reply_text (reply.CopiedIn bytes) = codes "copied " ++ decimal (length bytes.items) ++ codes " " ++ bytes_text bytes.items
reply_text (reply.Scalar (scalar.CopiedOut n)) = codes "copied " ++ decimal n
reply_text (reply.ShortIn r bytes) = codes "short " ++ rule_text r ++ codes " done " ++ decimal (length bytes.items) ++ codes " " ++ bytes_text bytes.items
reply_text (reply.Scalar (scalar.ShortOut r n)) = codes "short " ++ rule_text r ++ codes " done " ++ decimal n
reply_text (reply.Scalar (scalar.Exited status)) = codes "exited " ++ signed_decimal status
reply_text (reply.Scalar (scalar.Refused r)) = codes "refused " ++ refusal_text r

abbrev pub report_text : Report → List ℕ
report_text r =
    codes "free " ++ (decimal r.free
    ++ (codes " held " ++ (decimal r.held ++ (codes " shared " ++ (decimal r.shared ++ (codes " references " ++ decimal r.references))))))
