use Rattle.std.proofs.Common.{true, false, sym, ◌∙◌}
use Rattle.std.proofs.lemmas.Bool.{false≢true}
use Rattle.lent_walk.proofs.WordSteps.{denied, misaligned_leaf}
use Rattle.lent_walk.proofs.walk.Question.after_leaf.Goals.{else-is_aligned-via-then-is_aligned+else-permits, else-is_aligned-via-else-is_aligned}
use Rattle.lent_walk.proofs.walk.Question.after_leaf.Goals as goal

pub returns-else-is_aligned-clause-goes : goal.returns-else-is_aligned-clause-goes
returns-else-is_aligned-clause-goes c = λ m there root at has kind. elim c.else-is_aligned.branch [
  | else-is_aligned-via-then-is_aligned+else-permits w ↦
      denied c.args.self.scheme m there root c.args.self.va.0 c.args.self.access c.args.self.mode c.args.walk.now c.end_at.result c.args.leaf at has kind
      (c.is_aligned.ensures.0 w.if-is_aligned.true) (sym w.permits.ensures ∙ w.if-permits.false) c.end_at.ensures.status c.end_at.ensures.cause
  | else-is_aligned-via-else-is_aligned w ↦
      misaligned_leaf c.args.self.scheme m there root c.args.self.va.0 c.args.self.access c.args.self.mode c.args.walk.now c.end_at.result c.args.leaf at has kind
      (λ aligned. false≢true (sym w.if-is_aligned.false ∙ c.is_aligned.ensures.1 aligned)) c.end_at.ensures.status c.end_at.ensures.cause
]
