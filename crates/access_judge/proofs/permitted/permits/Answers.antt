use Rattle.access_judge.specs.Search.{outcomes_by}
use Rattle.access_judge.proofs.Exact.{search_is_exact}
use Rattle.access_judge.proofs.ListedOutcomes.{is_sought}
use Rattle.access_judge.proofs.permitted.permits.Goals as goal

pub returns : goal.returns
returns g c =
    let p = g.L.Log.past c.args.log.now in
    let us = g.L.Log.uses_of c.args.log.now in
    let os = outcomes_by c.args.extensions p us c.args.request in
    let exact = search_is_exact c.args.extensions p us c.args.request (g.met.L.Log.unfenced c.args.log.now) (g.met.L.Log.are_uses c.args.log.now) c.requires in
    let both = is_sought c.args.extensions p c.args.request os c.args.outcome c.tell_outcomes.new.sink.is_found c.tell_outcomes.ensures.seeks exact in
    (both.0, both.1)
