use Rattle.std.proofs.Common.{arith}
use Rattle.std.proofs.lemmas.Grind.{common_steps}
use Rattle.std.proofs.lemmas.List.Elements.{filter_map-append}
use Rattle.line_traces.proofs.leaves.changed_leaves.Goals as goal

pub lost-preserved : goal.lost-preserved
lost-preserved c = grind (arith, common_steps, filter_map-append)

pub found-preserved : goal.found-preserved
found-preserved c = grind (arith, common_steps, filter_map-append)
