use Rattle.std.proofs.Common.{◌≡◌}
use Rattle.std.proofs.lemmas.Bool.{ne_eqb}
use Rattle.xv6vm_c.specs.Walks.{word_if}
use Rattle.xv6vm_c.proofs.walk.xv6vm_walk_next.Goals as goal
use Rattle.xv6vm_c.proofs.walk.xv6vm_walk_next.Goals.{then-is_there-eq0, else-is_there-eq0}

pub returns-clause-goes : goal.returns-clause-goes
returns-clause-goes c = λ s a p m there means goes told.
    let same : c.if-is_there-eq0.read ≡ word_if c.args.is_there c.args.word = elim c.if-is_there-eq0.branch [
      | then-is_there-eq0 w ↦ rw w.if-is_there-eq0.true w.read-is
      | else-is_there-eq0 w ↦ rw (ne_eqb _ _ w.if-is_there-eq0.false) w.read-is
    ] in
    c.after-walk.ensures.goes s a p m there means goes (rw (← same) at told)
