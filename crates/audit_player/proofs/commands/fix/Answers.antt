use Rattle.std.proofs.Common.{ap, refl}
use Rattle.process_model.specs.declared.reply.Reply.TheVariants.{Scalar}
use Rattle.audit_player.proofs.Fixing.{goes_back, in_world, no_ready, not_back, not_entered}
use Rattle.audit_player.proofs.Runs.{no_refusal}
use Rattle.audit_player.proofs.commands.fix.Goals as goal

pub step_scalar-served-requires : goal.step_scalar-served-requires
step_scalar-served-requires c = record { world = in_world _ _ _ (c.three_next-entered.ensures.made (c.requires.world).0 (c.requires.world).1); scalar = refl }

pub three_next-requires : goal.three_next-requires
three_next-requires c =
    let entered = c.three_next-entered.ensures.made (c.requires.world).0 (c.requires.world).1 in
    record { world = in_world _ _ _ (c.step_scalar-served.ensures.made _ entered.1) }

pub returns-in-Refused : goal.returns-in-Refused
returns-in-Refused c = record { made = λ w here. not_entered w c.args.hart _ _ c.in-Refused.field-0 (ap Scalar c.in-Refused.is) (c.three_next-entered.ensures.made w here) }

pub returns-in-Ready : goal.returns-in-Ready
returns-in-Ready c = record {
  made = λ w here.
      goes_back w c.args.hart _ _ _ _ _ _ (no_refusal c.three_next-entered.result c.in_default.not-Refused) (ap Scalar c.in-Ready.is) (c.three_next-entered.ensures.made w here) c.step_scalar-served.ensures.made c.three_next.ensures.made;
}

pub returns : goal.returns
returns c = record {
  made = λ w here.
      not_back w c.args.hart _ _ _ _ (no_refusal c.three_next-entered.result c.in_default.not-Refused) (no_ready c.step_scalar-served.result c.in_default-served.not-Ready) (c.three_next-entered.ensures.made w here) c.step_scalar-served.ensures.made;
}
