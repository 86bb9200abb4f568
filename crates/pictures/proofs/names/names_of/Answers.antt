use Rattle.std.proofs.Common.{arith}
use Rattle.std.proofs.lemmas.Grind.{common_steps}
use Rattle.std.proofs.lemmas.List.Elements.{filter_map-append}
use Rattle.pictures.proofs.names.names_of.Goals as goal

pub leaves-preserved : goal.leaves-preserved
leaves-preserved c = grind (arith, common_steps, filter_map-append)
