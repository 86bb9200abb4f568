-- The PMP entries of a hart (`entries_of`), and what PMP may say of an access (`Verdict`).
use Rattle.std.specs.Prelude.{Bool, not, ◌||◌, min, List, take, slice_set}
use Rattle.walk_rules.specs.Pmp.{pmp_permits}
use Rattle.walk_rules.specs.declared.pmp.PmpEntry.{PmpEntry}
use Rattle.access_history.specs.declared.event.Event.{Event}
use Rattle.access_history.specs.declared.event.Event.TheVariants.{Store, WriteSatp, WritePmp, Fence}
use Rattle.lent_history.specs.declared.pmp.Checked.{Checked}
use Rattle.lent_history.specs.declared.pmp.PmpEntries.{PmpEntries}
use Rattle.lent_history.specs.declared.pmp.Verdict.{Verdict}

abbrev pub entries_of : PmpEntries → List PmpEntry
entries_of e = take (min e.count 64) e.entries

abbrev pub entries_follow : Event → List PmpEntry → List PmpEntry
entries_follow (Store p i w) es = es
entries_follow (WriteSatp w) es = es
entries_follow (WritePmp n e) es = slice_set es n e
entries_follow (Fence a s) es = es

abbrev pub permits_checked : Checked → List PmpEntry → Bool
permits_checked c es = pmp_permits es c.privilege c.access c.pa c.width

abbrev pub verdict_of : Bool → Verdict
verdict_of permits = record { passes = permits; fails = not permits }

abbrev pub verdict_after : Event → Bool → Verdict → Verdict
verdict_after (Store p i w) permits v = v
verdict_after (WriteSatp w) permits v = v
verdict_after (WritePmp n e) permits v = record { passes = permits || v.passes; fails = not permits || v.fails }
verdict_after (Fence a s) permits v = v
