-- Fillers for a `Plan`, `RunFiles` or `StartOutcomes` (ghost constants of a run) that belongs to no run: empty lists of calls,
-- of starts, of slots taken and of files.
use Rattle.std.specs.Prelude.{Bool, List, []}
use Rattle.process_model.specs.Files.{File}
use Rattle.process_model.specs.declared.call.Call.{Call}
use Rattle.process_model.specs.declared.call.Start.{Start}

abbrev pub no_lists : List (List Call)
no_lists = []

abbrev pub no_plan : List Start
no_plan = []

abbrev pub none_taken : List Bool
none_taken = []

abbrev pub no_files : List File
no_files = []
