use Rattle.address_space.proofs.NeededParts.{all_pages, pages_fit, pages_counted, pages_none}
use Rattle.address_space.proofs.frame_need.page_count.Goals as goal

pub parts-init : goal.parts-init
parts-init c = pages_none c.args.scheme c.args.parts.now

pub overflow_add-count : goal.overflow_add-count
overflow_add-count c = pages_fit c.args.scheme c.args.parts.now c.parts.part-index _ c.parts-test.true c.requires c.parts.count c.parts.invariant

pub parts-preserved : goal.parts-preserved
parts-preserved c = pages_counted c.args.scheme c.args.parts.now c.parts.part-index _ c.parts-test.true c.requires c.parts.count c.parts.invariant

pub returns : goal.returns
returns c = record {
  count = all_pages c.args.scheme c.args.parts.now c.parts.part-index c.parts.count c.parts-test.false c.parts.invariant;
  few = c.parts.invariant.few;
}
