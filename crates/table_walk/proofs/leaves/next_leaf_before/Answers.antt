use Rattle.table_walk.specs.TableChanges.{IsTableAt}
use Rattle.table_walk.specs.Tables.{root_node}
use Rattle.table_walk.proofs.Shed.{root_level}
use Rattle.table_walk.proofs.leaves.next_leaf_before.Goals as goal

pub next_below-requires-clause-held : goal.next_below-requires-clause-held
next_below-requires-clause-held g c =
    let h = c.requires.held in
    let at : IsTableAt (root_node c.args.scheme) c.top_level.result = rw c.top_level.ensures.value (root_level c.args.scheme) in
    (c.args.scheme, c.args.root.0, root_node c.args.scheme, h.0, h.1, h.1.known.rooted, at)
