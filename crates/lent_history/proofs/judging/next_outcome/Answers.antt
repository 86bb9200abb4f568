use Rattle.std.proofs.Common.{◌≡◌, Some, None, ap, sym, refl, ◌∙◌}
use Rattle.access_judge.specs.Search.{ArePermitted, outcomes_by}
use Rattle.lent_history.specs.Judging.{Finding}
use Rattle.lent_history.specs.Laws.{history_unfenced, uses_are_uses}
use Rattle.lent_history.specs.Lent.{past_of, used, uses_of}
use Rattle.lent_history.proofs.judging.next_outcome.Goals as goal

pub returns-clause-some : goal.returns-clause-some
returns-clause-some c = λ o is.
    let l = c.args.history.now in
    let exact : ArePermitted c.args.extensions (past_of l) c.args.request.now (outcomes_by c.args.extensions (past_of l) (uses_of l) c.args.request.now) =
    c.search_is_exact.ensures c.args.extensions (past_of l) (uses_of l) c.args.request.now (history_unfenced l.events (used l))
    (uses_are_uses l.hart.satp l.events (used l)) c.requires in
    let found : c.tell_outcomes.new.sink.found ≡ Some o = ap (λ (f : Finding). f.found) (sym c.finder.view_is) ∙ is in
    let new = c.tell_outcomes.ensures.some o refl found in
    ((exact o).0 new.0, new.1)

pub returns-clause-none : goal.returns-clause-none
returns-clause-none c = λ is o permits.
    let l = c.args.history.now in
    let exact : ArePermitted c.args.extensions (past_of l) c.args.request.now (outcomes_by c.args.extensions (past_of l) (uses_of l) c.args.request.now) =
    c.search_is_exact.ensures c.args.extensions (past_of l) (uses_of l) c.args.request.now (history_unfenced l.events (used l))
    (uses_are_uses l.hart.satp l.events (used l)) c.requires in
    let found : c.tell_outcomes.new.sink.found ≡ None = ap (λ (f : Finding). f.found) (sym c.finder.view_is) ∙ is in
    c.tell_outcomes.ensures.none found o ((exact o).1 permits)
