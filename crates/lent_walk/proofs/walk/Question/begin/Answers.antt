use Rattle.std.proofs.Common.{sym, ◌∙◌}
use Rattle.lent_walk.proofs.WordSteps.{not_canonical}
use Rattle.lent_walk.proofs.walk.Question.begin.Goals as goal

pub returns-else-is_canonical-clause-goes : goal.returns-else-is_canonical-clause-goes
returns-else-is_canonical-clause-goes c = λ m there.
    not_canonical c.args.self.scheme m there c.args.root c.args.self.va.0 c.args.self.access c.args.self.mode c.page_fault.result (sym c.is_canonical.ensures.test ∙ c.if-is_canonical.false)
    c.page_fault.ensures.status c.page_fault.ensures.cause
