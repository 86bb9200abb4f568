use Rattle.process_model.specs.declared.reply.Reply.TheVariants.{Scalar}
use Rattle.process_model.specs.Steps.{plain_step}
use Rattle.hart_machine.proofs.MarkedSteps.{are_after, fills_alone, keeps_made, made_after, true_after}
use Rattle.hart_machine.proofs.MarkedWorlds.{born_low, changed_low}
use Rattle.hart_machine.proofs.machine.Machine.step_scalar.Goals as goal

pub mark-requires : goal.mark-requires
mark-requires c s is =
    let r = c.requires.world in
    changed_low r.0 (plain_step r.0 c.args.step) _ _ (c.make-reply.ensures.changed r.0 r.1) (r.1).world.few s is

pub mark-requires-2 : goal.mark-requires-2
mark-requires-2 c s is =
    let r = c.requires.world in
    born_low r.0 (plain_step r.0 c.args.step) _ _ (c.make-reply.ensures.changed r.0 r.1) (r.1).world.few s is

pub returns-clause-made : goal.returns-clause-made
returns-clause-made c w inn =
    let y = c.make-reply.ensures in
    made_after c.args.self.now c.make-reply.new.self c.mark.new.self c.mark-2.new.self w c.args.step inn (Scalar c.make-reply.result.reply) c.make-reply.result.changed c.make-reply.result.born (y.made w inn) (y.changed w inn) (y.tables w inn) (y.each_buffer w inn) c.mark.ensures.harts c.mark.ensures.buffers c.mark.ensures.others c.mark-2.ensures.harts c.mark-2.ensures.buffers c.mark-2.ensures.others

pub returns-clause-fills : goal.returns-clause-fills
returns-clause-fills c w inn =
    let y = c.make-reply.ensures in
    fills_alone c.args.self.now c.make-reply.new.self c.mark.new.self c.mark-2.new.self w c.args.step inn (Scalar c.make-reply.result.reply) c.make-reply.result.changed c.make-reply.result.born (y.made w inn) (y.changed w inn) (y.tables w inn) (y.each_buffer w inn) c.mark.ensures.harts c.mark.ensures.buffers c.mark.ensures.others c.mark-2.ensures.harts c.mark-2.ensures.buffers c.mark-2.ensures.others

pub returns-clause-each_buffer : goal.returns-clause-each_buffer
returns-clause-each_buffer c w inn =
    let y = c.make-reply.ensures in
    are_after c.args.self.now c.make-reply.new.self c.mark.new.self c.mark-2.new.self w c.args.step inn (Scalar c.make-reply.result.reply) c.make-reply.result.changed c.make-reply.result.born (y.made w inn) (y.changed w inn) (y.tables w inn) (y.each_buffer w inn) c.mark.ensures.harts c.mark.ensures.buffers c.mark.ensures.others c.mark-2.ensures.harts c.mark-2.ensures.buffers c.mark-2.ensures.others

pub returns-clause-tables : goal.returns-clause-tables
returns-clause-tables c w inn =
    let y = c.make-reply.ensures in
    keeps_made c.args.self.now c.make-reply.new.self c.mark.new.self c.mark-2.new.self w c.args.step inn (Scalar c.make-reply.result.reply) c.make-reply.result.changed c.make-reply.result.born (y.made w inn) (y.changed w inn) (y.tables w inn) (y.each_buffer w inn) c.mark.ensures.harts c.mark.ensures.buffers c.mark.ensures.others c.mark-2.ensures.harts c.mark-2.ensures.buffers c.mark-2.ensures.others

pub returns-clause-identifiers : goal.returns-clause-identifiers
returns-clause-identifiers c w inn asid =
    let y = c.make-reply.ensures in
    true_after c.args.self.now c.make-reply.new.self c.mark.new.self c.mark-2.new.self w c.args.step inn (Scalar c.make-reply.result.reply) c.make-reply.result.changed c.make-reply.result.born (y.made w inn) (y.changed w inn) (y.tables w inn) (y.each_buffer w inn) c.mark.ensures.harts c.mark.ensures.buffers c.mark.ensures.others c.mark-2.ensures.harts c.mark-2.ensures.buffers c.mark-2.ensures.others asid
