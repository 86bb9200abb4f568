-- What `start` picks: the life of the process.
use Rattle.std.proofs.Common.{[]}
use Rattle.hart_calls.specs.ProcessCodes.{code_of}
use Rattle.vouchers.specs.Entries.{birth, entry}
use Rattle.run_roster.proofs.roster.Roster.start.Given as goal

abbrev pub ghosts-issue : goal.ghosts-issue
ghosts-issue g a = record { entry = entry a.from.now.0.now (birth a.from.now.1 (code_of a.from.now.2.now.state)) [] }
