use Rattle.std.proofs.Common.{sym, ◌∙◌}
use Rattle.lent_walk.proofs.walk.Question.next.Goals as goal

pub returns-in-9-clause-byte : goal.returns-in-9-clause-byte
returns-in-9-clause-byte c = λ m there root at byte. c.after_byte.ensures.goes m there root at (byte ∙ sym c.is_some.ensures)
