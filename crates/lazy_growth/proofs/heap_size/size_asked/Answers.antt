use Rattle.std.proofs.Common.{◌≤◌, sym, subst, ◌∙◌}
use Rattle.lazy_growth.proofs.SizeRefusals.{below_zero, heap_low}
use Rattle.process_model.specs.Bytes.{pages_for}
use Rattle.sv39_entry.specs.Schemes.{trapframe_page}
use Rattle.lazy_growth.proofs.heap_size.size_asked.Goals as goal

pub returns-in_default-clause-refused : goal.returns-in_default-clause-refused
returns-in_default-clause-refused c p lays =
    let r = c.requires.order in
    let low = subst (λ n. pages_for n ≤ trapframe_page r.0.scheme) (r.1.size ∙ sym c.size.ensures) (heap_low r.0 r.2) in
    below_zero r.0.scheme p c.size.result c.args.delta (lays.size ∙ sym c.size.ensures) low c.ranges.delta c.in_default.ensures
