-- What the test picks: the files of the run.
use Rattle.tests_of_scripts.proofs.shelves.without_files_nobody_locks_the_shelf.Given as goal

abbrev pub ghosts-run_while_locked : goal.ghosts-run_while_locked
ghosts-run_while_locked g a = record { files = a.shelf.first }
