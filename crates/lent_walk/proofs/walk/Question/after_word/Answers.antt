use Rattle.std.proofs.Common.{sym, ◌∙◌}
use Rattle.lent_walk.proofs.WordSteps.{invalid_word, outside}
use Rattle.lent_walk.proofs.walk.Question.after_word.Goals as goal

pub returns-in_default-clause-goes : goal.returns-in_default-clause-goes
returns-in_default-clause-goes c = λ m there root at has.
    outside c.args.self.scheme m there root c.args.self.va.0 c.args.self.access c.args.self.mode c.args.walk.now c.access_fault.result at (has ∙ c.in_default.is)
    c.access_fault.ensures.status c.access_fault.ensures.cause

pub returns-in-Invalid-clause-goes : goal.returns-in-Invalid-clause-goes
returns-in-Invalid-clause-goes c = λ m there root at has.
    let kind = rw c.from_word-entry.ensures at c.kind.ensures in
    invalid_word c.args.self.scheme m there root c.args.self.va.0 c.args.self.access c.args.self.mode c.args.walk.now c.end_at.result c.in-Some.word at (has ∙ c.in-Some.is)
    (sym kind ∙ c.in-Invalid.is) c.end_at.ensures.status c.end_at.ensures.cause

pub returns-in-Pointer-clause-goes : goal.returns-in-Pointer-clause-goes
returns-in-Pointer-clause-goes c = λ m there root at has.
    let here = rw (← c.from_word-entry.ensures) at (has ∙ c.in-Some.is) in
    c.after_pointer.ensures.goes m there root at here (sym c.kind.ensures ∙ c.in-Pointer.is)

pub returns-in-Leaf-clause-goes : goal.returns-in-Leaf-clause-goes
returns-in-Leaf-clause-goes c = λ m there root at has.
    let here = rw (← c.from_word-entry.ensures) at (has ∙ c.in-Some.is) in
    c.after_leaf.ensures.goes m there root at here (sym c.kind.ensures ∙ c.in-Leaf.is)
