use Rattle.std.proofs.Common.{sym, ◌∙◌, arith}
use Rattle.walk_rules.proofs.Deciding.{hit, miss}
use Rattle.walk_rules.proofs.pmp.pmp_permits.Goals as goal

pub returns-then-contains : goal.returns-then-contains
returns-then-contains c =
    let decides = hit c.args.entries.now c.args.privilege c.args.access c.args.pa c.args.width
    c.loop-entry.below c.loop-entry.entry-index (record { config = 0; address = 0 }) (omega arith)
    c.region-region.result c.region-region.ensures.value c.overlaps.result c.overlaps.ensures c.if-overlaps.true in
    sym (rw (sym c.contains.ensures, c.if-contains.true, sym c.grants.ensures) at decides) ∙ c.loop-entry.invariant

pub returns-else-contains : goal.returns-else-contains
returns-else-contains c =
    let decides = hit c.args.entries.now c.args.privilege c.args.access c.args.pa c.args.width
    c.loop-entry.below c.loop-entry.entry-index (record { config = 0; address = 0 }) (omega arith)
    c.region-region.result c.region-region.ensures.value c.overlaps.result c.overlaps.ensures c.if-overlaps.true in
    c.if-contains.false ∙ sym (rw (sym c.contains.ensures, c.if-contains.false) at decides) ∙ c.loop-entry.invariant

pub loop-entry-preserved : goal.loop-entry-preserved
loop-entry-preserved c =
    sym (miss c.args.entries.now c.args.privilege c.args.access c.args.pa c.args.width
    c.loop-entry.below c.loop-entry.entry-index (record { config = 0; address = 0 }) (omega arith)
    c.region-region.result c.region-region.ensures.value c.overlaps.result c.overlaps.ensures c.if-overlaps.false) ∙ c.loop-entry.invariant
