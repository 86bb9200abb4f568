use Rattle.std.proofs.Common.{◌∙◌}
use Rattle.hart_calls.proofs.access.accessed.Goals as goal

pub returns-clause-reply : goal.returns-clause-reply
returns-clause-reply g c = λ t p space walk. c.scalar.ensures ∙ c.user_access.ensures.reply t p space walk
