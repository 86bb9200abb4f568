use Rattle.std.proofs.Common.{◌∙◌}
use Rattle.lent_history.proofs.Asked.{passes_then}
use Rattle.lent_history.proofs.history.LentHistoryLog.may_pass.Goals as goal

pub returns : goal.returns
returns c =
    c.verdict_at.ensures.passes
    ∙ passes_then _ c.args.self.now c.args.moment (record {
      privilege = c.args.privilege;
      access = c.args.access;
      pa = c.args.pa;
      width = c.args.width;
    }) c.self.view_is c.requires
