-- What `run_pool` picks: the files of the run.
use Rattle.std.proofs.Common.{map}
use Rattle.process_model.specs.Files.{file_of}
use Rattle.audit_player.proofs.threads.run_pool.Given as goal

abbrev pub ghosts-run_files : goal.ghosts-run_files
ghosts-run_files g a = record { files = map file_of a.script.now.files }
