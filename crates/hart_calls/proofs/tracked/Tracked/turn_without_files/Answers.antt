use Rattle.hart_calls.proofs.Ends.{unfiled_by}
use Rattle.hart_calls.proofs.tracked.Tracked.turn_without_files.Goals as goal

pub returns-clause-full : goal.returns-clause-full
returns-clause-full g c = unfiled_by _ c.turn.result c.new-shelf.result c.turn.new.shelf c.turn.ensures.files c.new-shelf.ensures.history c.requires.none
