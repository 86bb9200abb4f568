use Rattle.std.proofs.Common.{arith}
use Rattle.hart_machine.proofs.StartSlots.{all_taken, first_free, one_more_taken, read_empty}
use Rattle.hart_machine.proofs.machine.Machine.free_slot.Goals as goal

pub returns-then-is_none : goal.returns-then-is_none
returns-then-is_none c = first_free c.args.self.now c.loop-slot.slot c.loop-slot.invariant
    (read_empty c.args.self.now.slots.items c.loop-slot.slot c.index.result.now (omega (arith, c.loop-slot-test.true, c.len-slot-end.ensures)) c.index.ensures c.if-is_none.ensures)

pub returns : goal.returns
returns c = all_taken c.args.self.now c.loop-slot.slot c.loop-slot.invariant (omega (arith, c.loop-slot-test.false, c.loop-slot.auto.slot-end, c.len-slot-end.ensures))

pub loop-slot-preserved : goal.loop-slot-preserved
loop-slot-preserved c = one_more_taken c.args.self.now.slots.items c.loop-slot.slot c.index.result.now (omega (arith, c.loop-slot-test.true, c.len-slot-end.ensures)) c.index.ensures c.if-is_none.ensures c.loop-slot.invariant
