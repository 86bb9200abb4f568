use Rattle.std.proofs.Common.{◌∙◌}
use Rattle.process_laws.proofs.SameScheme.{always_scheme}
use Rattle.process_laws.proofs.worlds.schemes_stay.Goals as goal

pub returns-clause-world : goal.returns-clause-world
returns-clause-world c config files steps = (always_scheme config files steps).world

pub returns-clause-processes : goal.returns-clause-processes
returns-clause-processes c config files steps = λ s p lives. let is = always_scheme config files steps in is.processes s p lives ∙ is.world
