-- What `add_child` picks: the life of a process, as its journal tells it.
use Rattle.vouchers.specs.Entries.{entry}
use Rattle.run_roster.specs.Births.{began, births_of}
use Rattle.run_roster.proofs.roster.Roster.add_child.Given as goal

abbrev pub ghosts-issue : goal.ghosts-issue
ghosts-issue g a = record { entry = entry a.from.now.name (began a.from.now) (births_of a.from.now.journal) }
