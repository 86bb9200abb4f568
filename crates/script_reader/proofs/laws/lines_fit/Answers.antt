use Rattle.script_reader.proofs.Playable.{line_item_fits, nothing_said, sound_with}
use Rattle.script_reader.proofs.laws.lines_fit.Goals as goal

pub returns-clause-fits : goal.returns-clause-fits
returns-clause-fits c = line_item_fits

pub returns-clause-sound : goal.returns-clause-sound
returns-clause-sound c = sound_with

pub returns-clause-none : goal.returns-clause-none
returns-clause-none c = nothing_said
