use Rattle.std.proofs.Common.{sym, ◌∙◌}
use Rattle.tests_of_refusals.proofs.Living.{alive_forked}
use Rattle.tests_of_refusals.proofs.Seats.{keeps_alone, keeps_forked, no_child}
use Rattle.tests_of_refusals.proofs.family.fork_once.Goals as goal

pub returns-in-Ok-clause-alive : goal.returns-in-Ok-clause-alive
returns-in-Ok-clause-alive g c = alive_forked _ _ _ c.in-Ok.ensures.forked c.requires.alive.0

pub returns-in-Ok-clause-keeps : goal.returns-in-Ok-clause-keeps
returns-in-Ok-clause-keeps g c = keeps_forked g.F.FrameAccess.invariant _ _ _ _ _ _ (no_child _ (sym c.is_some.ensures ∙ c.if-is_some.false)) c.in-Ok.ensures.keeps

pub returns-in-Err-clause-alive : goal.returns-in-Err-clause-alive
returns-in-Err-clause-alive g c = let alive = c.requires.alive.0 in ((alive.0, alive.1, c.in-Err.ensures.whole alive.0 alive.1 alive.2), c.requires.alive.1)

pub returns-in-Err-clause-keeps : goal.returns-in-Err-clause-keeps
returns-in-Err-clause-keeps g c = keeps_alone g.F.FrameAccess.invariant _ _ _ _ _ c.in-Err.ensures.keeps_refused
