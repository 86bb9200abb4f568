use Rattle.std.proofs.Common.{◌∙◌}
use Rattle.tests_of_refusals.proofs.Living.{alive_replaced}
use Rattle.tests_of_refusals.proofs.calls.executed.Goals as goal

pub exec-requires-clause-scheme : goal.exec-requires-clause-scheme
exec-requires-clause-scheme g c = c.in-Ok.ensures.scheme ∙ c.scheme.ensures

pub returns-in-Ok-clause-alive : goal.returns-in-Ok-clause-alive
returns-in-Ok-clause-alive g c = alive_replaced _ _ _ _ c.exec.result c.exec.ensures.replaced c.exec.ensures.whole c.requires.alive
