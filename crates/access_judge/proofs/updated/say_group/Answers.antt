use Rattle.std.proofs.Common.{◌+◌, ◌++◌, ℕ, List, [], refl, subst}
use Rattle.access_history.specs.declared.outcome.Outcome.{Outcome}
use Rattle.access_judge.specs.Judging.{found_of, place_says_of}
use Rattle.access_judge.proofs.Telling.{range_more}
use Rattle.access_judge.proofs.UpdatedBehind.{group_all}
use Rattle.access_judge.proofs.updated.say_group.Goals as goal

pub group-init : goal.group-init
group-init g c = ([], g.met.S.Sink.gains_nothing c.args.sink.now, refl)

pub group-preserved : goal.group-preserved
group-preserved g c =
    let says : ℕ → List Outcome = λ n. place_says_of c.args.question.now (g.L.Log.past c.args.log.now) (found_of c.args.step.now) (c.args.first + n) in
    let i = c.group.invariant in (
      i.0 ++ says c.group.number,
      g.met.S.Sink.gains_on _ _ _ _ _ i.1 c.say_place.ensures,
      range_more says c.group.number i.0 _ c.group-test.true i.2,
    )

pub returns : goal.returns
returns g c =
    let i = c.group.invariant in
    subst (λ (os : List Outcome). g.S.Sink.gains c.args.sink.now os c.group.sink)
    (group_all c.args.question.now (g.L.Log.past c.args.log.now) (found_of c.args.step.now) c.args.first c.group.number i.0 c.group-test.false i.2) i.1
