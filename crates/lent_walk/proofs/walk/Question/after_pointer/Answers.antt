use Rattle.std.proofs.Common.{arith}
use Rattle.lent_walk.proofs.WordSteps.{below, last_pointer}
use Rattle.lent_walk.proofs.walk.Question.after_pointer.Goals as goal

pub returns-then-walk-gt0-clause-goes : goal.returns-then-walk-gt0-clause-goes
returns-then-walk-gt0-clause-goes c = λ m there root at has kind.
    below c.args.self.scheme m there root c.args.self.va.0 c.args.self.access c.args.self.mode c.args.walk.now c.ask.result c.args.pointer at has kind (omega (arith, c.if-walk-gt0.true))
    (rw c.ppn.ensures.value at c.ask.ensures)

pub returns-else-walk-gt0-clause-goes : goal.returns-else-walk-gt0-clause-goes
returns-else-walk-gt0-clause-goes c = λ m there root at has kind.
    last_pointer c.args.self.scheme m there root c.args.self.va.0 c.args.self.access c.args.self.mode c.args.walk.now c.end_at.result c.args.pointer at has kind
    (omega (arith, c.if-walk-gt0.false)) c.end_at.ensures.status c.end_at.ensures.cause
