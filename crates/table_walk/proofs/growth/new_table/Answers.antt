use Rattle.std.proofs.Common.{◌∙◌, ap, arith}
use Rattle.frame_store.specs.Holds.{hold_of-with_hold_same}
use Rattle.frame_store.specs.View.{hold_of, with_hold}
use Rattle.table_walk.specs.Tables.{blank_hold}
use Rattle.table_walk.proofs.Blank.{hold_of-claimed_same}
use Rattle.table_walk.proofs.Roots.{anchored_still, root_tables}
use Rattle.table_walk.proofs.growth.new_table.Goals as goal

pub clear-requires-clause-claimed : goal.clear-requires-clause-claimed
clear-requires-clause-claimed g c = ap (λ v. hold_of v c.claim-table.result.0) c.claim-table.ensures.view ∙ hold_of-claimed_same _ _

pub returns-clause-root : goal.returns-clause-root
returns-clause-root g c s = root_tables s c.claim-table.result.0 _ (omega arith) (ap (λ v. hold_of v c.claim-table.result.0) c.clear.ensures.view ∙ hold_of-with_hold_same c.claim-table.result.0 blank_hold _)

pub returns-clause-anchored : goal.returns-clause-anchored
returns-clause-anchored g c =
    anchored_still _ _ _ c.claim-table.ensures.fresh (c.clear.ensures.view ∙ ap (λ v. with_hold c.claim-table.result.0 blank_hold v) c.claim-table.ensures.view) c.requires.anchored
