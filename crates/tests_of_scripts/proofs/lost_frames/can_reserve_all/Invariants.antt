-- What `can_reserve_all` picks: the files of the run.
use Rattle.tests_of_scripts.proofs.lost_frames.can_reserve_all.Given as goal

abbrev pub ghosts-run_and_reserve : goal.ghosts-run_and_reserve
ghosts-run_and_reserve g a = record { files = a.shelf.first }
