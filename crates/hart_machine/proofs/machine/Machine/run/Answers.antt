use Rattle.std.proofs.Common.{◌+◌, arith, drop, List, subst, sym}
use Rattle.process_laws.proofs.HeadlineProof.{headline_holds}
use Rattle.process_laws.specs.Headline.{Headline}
use Rattle.process_model.specs.Steps.{run}
use Rattle.process_model.specs.World.{booted}
use Rattle.process_model.specs.declared.reply.Reply.{Reply}
use Rattle.hart_machine.proofs.ListedSteps.{HasRun, all_run, next_left, none_left, one_more, run_buffers, run_true}
use Rattle.hart_machine.proofs.machine.Machine.run.Goals as goal

pub step-requires : goal.step-requires
step-requires c =
    let r = c.requires.world in
    let has = c.steps.invariant.has_run r.0 r.1 in
    record { world = (has.world, has.is_in) }

pub steps-preserved : goal.steps-preserved
steps-preserved c = record {
  room = omega (arith, c.push_reserved.ensures.capacity, c.steps.invariant.room);
  made = omega (arith, c.push_reserved.ensures.len, c.steps.invariant.made);
  has_run = λ w is.
      let all = c.args.steps.now in
      let i = c.steps.step-index in
      let before = next_left c.args.self.now c.steps.self all i c.step-item.result c.steps.replies.items w (omega (arith, c.steps-test.true)) c.step-item.is (c.steps.invariant.has_run w is) in
      subst (λ rs. HasRun c.args.self.now c.step.new.self all (drop (i + 1) all) rs w) (sym c.push_reserved.ensures.items)
      (one_more c.args.self.now c.steps.self c.step.new.self all (drop (i + 1) all) c.step-item.result c.steps.replies.items c.step.result w before c.step.ensures.made c.step.ensures.tables c.step.ensures.each_buffer);
}

pub returns-clause-replies : goal.returns-clause-replies
returns-clause-replies c = λ w is. (all_run c.args.self.now c.steps.self c.args.steps.now c.steps.replies.items w (none_left c.args.self.now c.steps.self c.args.steps.now c.steps.step-index c.steps.replies.items w (omega (arith, c.steps-test.false)) (c.steps.invariant.has_run w is))).0

pub returns-clause-world : goal.returns-clause-world
returns-clause-world c = λ w is. (all_run c.args.self.now c.steps.self c.args.steps.now c.steps.replies.items w (none_left c.args.self.now c.steps.self c.args.steps.now c.steps.step-index c.steps.replies.items w (omega (arith, c.steps-test.false)) (c.steps.invariant.has_run w is))).1

pub returns-clause-headline : goal.returns-clause-headline
returns-clause-headline c config files earlier is =
    let w = (run (booted config files) earlier).world in
    let replies = (all_run c.args.self.now c.steps.self c.args.steps.now c.steps.replies.items w (none_left c.args.self.now c.steps.self c.args.steps.now c.steps.step-index c.steps.replies.items w (omega (arith, c.steps-test.false)) (c.steps.invariant.has_run w is))).0 in
    subst (λ (rs : List Reply). Headline config files earlier c.args.steps.now rs) (sym replies) (headline_holds config files earlier c.args.steps.now)

pub returns-clause-each_buffer : goal.returns-clause-each_buffer
returns-clause-each_buffer c = λ w is.
    run_buffers c.args.self.now c.steps.self c.args.steps.now c.steps.replies.items w (none_left c.args.self.now c.steps.self c.args.steps.now c.steps.step-index c.steps.replies.items w (omega (arith, c.steps-test.false)) (c.steps.invariant.has_run w is))

pub returns-clause-identifiers : goal.returns-clause-identifiers
returns-clause-identifiers c = λ w is asid.
    run_true c.args.self.now c.steps.self c.args.steps.now c.steps.replies.items w (none_left c.args.self.now c.steps.self c.args.steps.now c.steps.step-index c.steps.replies.items w (omega (arith, c.steps-test.false)) (c.steps.invariant.has_run w is)) asid
