use Rattle.std.proofs.Common.{List, subst}
use Rattle.access_history.specs.declared.outcome.Outcome.{Outcome}
use Rattle.access_judge.specs.Judging.{found_of}
use Rattle.access_judge.specs.Log.{versions_before}
use Rattle.access_judge.proofs.UpdatedBehind.{place_newest, place_nothing, place_now}
use Rattle.access_judge.proofs.updated.say_place.Goals as goal

pub returns-in-Some : goal.returns-in-Some
returns-in-Some g c =
    let a = c.args.question.now in let p = g.L.Log.past c.args.log.now in
    let found = found_of c.args.step.now in
    let newest = c.in-Some.newest in
    let list = place_now p found c.args.index c.now.result _ c.now.ensures c.in-Some.ensures.1 in
    subst (λ (os : List Outcome). g.S.Sink.gains c.args.sink.now os c.say_behind.new.sink)
    (place_newest a p found c.args.index newest.word c.now.result (versions_before p.first.memory p.events c.args.step.now.ppn c.args.index newest.since) list)
    c.say_behind.ensures

pub returns-in_default : goal.returns-in_default
returns-in_default g c =
    let a = c.args.question.now in let p = g.L.Log.past c.args.log.now in
    let found = found_of c.args.step.now in
    subst (λ (os : List Outcome). g.S.Sink.gains c.args.sink.now os c.args.sink.now)
    (place_nothing a p found c.args.index (place_now p found c.args.index c.now.result _ c.now.ensures c.in_default.ensures))
    (g.met.S.Sink.gains_nothing c.args.sink.now)
