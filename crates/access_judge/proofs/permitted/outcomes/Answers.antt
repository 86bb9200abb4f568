use Rattle.std.proofs.Common.{◌≡◌, false, ap}
use Rattle.access_judge.specs.Findings.{listed}
use Rattle.access_judge.specs.Listing.{EachOnce, outcomes_of}
use Rattle.access_judge.specs.Search.{ArePermitted, outcomes_by}
use Rattle.access_judge.proofs.Exact.{search_is_exact}
use Rattle.access_judge.proofs.ListedOutcomes.{are_listed, none_once, on_ok}
use Rattle.access_judge.proofs.permitted.outcomes.Goals as goal

pub returns : goal.returns
returns g c =
    let p = g.L.Log.past c.args.log.now in
    let us = g.L.Log.uses_of c.args.log.now in
    let os = outcomes_by c.args.extensions p us c.args.request in
    let none = ap outcomes_of c.clear.ensures.none in
    let exact = search_is_exact c.args.extensions p us c.args.request (g.met.L.Log.unfenced c.args.log.now) (g.met.L.Log.are_uses c.args.log.now) c.requires in
    record {
      permitted = on_ok (c.tell_outcomes.new.sink.is_full ≡ false) (ArePermitted c.args.extensions p c.args.request (listed c.tell_outcomes.new.sink)) c.finish.result c.finish.ensures
          (λ fits. are_listed c.args.extensions p c.args.request os (listed c.clear.new.self) (listed c.tell_outcomes.new.sink) none (c.tell_outcomes.ensures.lists fits) exact);
      once = on_ok (c.tell_outcomes.new.sink.is_full ≡ false) (EachOnce (listed c.tell_outcomes.new.sink)) c.finish.result c.finish.ensures
          (λ fits. c.tell_outcomes.ensures.once fits (none_once (listed c.clear.new.self) none));
    }
