-- What `admit` picks: the voucher of no name.
use Rattle.vouchers.specs.Entries.{nameless}
use Rattle.run_roster.proofs.roster.Roster.admit.Given as goal

abbrev pub ghosts-issue : goal.ghosts-issue
ghosts-issue g a = record { entry = nameless }
