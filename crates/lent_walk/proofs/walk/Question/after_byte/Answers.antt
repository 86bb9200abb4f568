use Rattle.std.proofs.Common.{refl, ◌∙◌}
use Rattle.lent_walk.proofs.WordSteps.{gone, granted}
use Rattle.lent_walk.proofs.walk.Question.after_byte.Goals as goal

pub returns-then-is_there-clause-goes : goal.returns-then-is_there-clause-goes
returns-then-is_there-clause-goes c = λ m there root at byte.
    granted c.args.self.scheme m there root c.args.self.va.0 c.args.self.access c.args.self.mode c.args.walk.now _ at (byte ∙ c.if-is_there.true) refl refl refl refl

pub returns-else-is_there-clause-goes : goal.returns-else-is_there-clause-goes
returns-else-is_there-clause-goes c = λ m there root at byte.
    gone c.args.self.scheme m there root c.args.self.va.0 c.args.self.access c.args.self.mode c.args.walk.now c.access_fault.result at (byte ∙ c.if-is_there.false)
    c.access_fault.ensures.status c.access_fault.ensures.cause
