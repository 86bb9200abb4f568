use Rattle.std.proofs.Common.{arith}
use Rattle.address_space.proofs.NeededParts.{counts_empty, counts_few, counts_none, counts_run, starts_below, top_counted, top_new}
use Rattle.address_space.proofs.frame_need.tables_of_parts.Goals as goal
use Rattle.address_space.proofs.frame_need.tables_of_parts.Goals.{then-region-gt0, else-region-gt0}
use Rattle.sv39_entry.specs.Schemes.{of_scheme}

pub parts-init : goal.parts-init
parts-init c = counts_none c.args.scheme c.args.pages c.args.parts.now

pub overflow_sub-count : goal.overflow_sub-count
overflow_sub-count c = rw c.max-first.ensures (starts_below c.args.scheme c.args.pages c.requires.some c.args.parts.now c.parts.part-index _ c.parts-test.true c.requires.parts c.parts.count c.parts.counted c.parts.invariant c.if-region-gt0.true)

pub overflow_add-count : goal.overflow_add-count
overflow_add-count c = rw c.max-first.ensures (let few = counts_few c.args.scheme c.args.pages c.requires.some c.args.parts.now c.parts.part-index _ c.parts-test.true c.requires.parts c.parts.count c.parts.counted c.parts.invariant c.if-region-gt0.true in omega (arith, few, of_scheme c.args.scheme))

pub parts-preserved : goal.parts-preserved
parts-preserved c = elim c.if-region-gt0.branch [
  | then-region-gt0 w ↦
      rw (w.count-is, w.counted-is, w.max-first.ensures)
      (counts_run c.args.scheme c.args.pages c.requires.some c.args.parts.now c.parts.part-index _ c.parts-test.true c.requires.parts c.parts.count c.parts.counted
      c.parts.invariant w.if-region-gt0.true)
  | else-region-gt0 w ↦
      rw (w.count-is, w.counted-is)
      (counts_empty c.args.scheme c.args.pages c.requires.some c.args.parts.now c.parts.part-index _ c.parts-test.true c.requires.parts c.parts.count c.parts.counted
      c.parts.invariant w.if-region-gt0.false)
]

pub returns-then-counted-top-clause-count : goal.returns-then-counted-top-clause-count
returns-then-counted-top-clause-count c =
    top_counted c.args.scheme c.args.pages c.args.parts.now c.parts.part-index c.parts.count c.parts.counted c.parts-test.false c.requires.top c.parts.invariant
    c.number.result (omega (arith, c.number.ensures.value, c.page.ensures.number, c.trapframe.ensures)) c.if-counted-top.true

pub returns-else-counted-top-clause-count : goal.returns-else-counted-top-clause-count
returns-else-counted-top-clause-count c =
    top_new c.args.scheme c.args.pages c.args.parts.now c.parts.part-index c.parts.count c.parts.counted c.parts-test.false c.requires.top c.parts.invariant
    c.number.result (omega (arith, c.number.ensures.value, c.page.ensures.number, c.trapframe.ensures)) c.if-counted-top.false
