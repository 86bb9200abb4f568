use Rattle.std.proofs.Common.{◌≤◌, ◌<◌, ◌-◌, ◌++◌, List, [], refl, subst, arith, if◌then◌else◌}
use Rattle.access_history.specs.Held.{sets_ad}
use Rattle.access_history.specs.declared.outcome.Outcome.{Outcome}
use Rattle.access_judge.specs.Judging.{found_of, update_says_of}
use Rattle.access_judge.proofs.UpdatedBehind.{behind_end, behind_more, behind_old}
use Rattle.access_judge.proofs.updated.say_behind.Goals as goal

pub words-init : goal.words-init
words-init g c = ([], g.met.S.Sink.gains_nothing c.args.sink.now, omega (arith, c.now-moment.ensures), c.requires.newest, refl)

pub word_at-requires-clause-past : goal.word_at-requires-clause-past
word_at-requires-clause-past g c = omega (arith, c.words.invariant.3)

pub returns-in-None : goal.returns-in-None
returns-in-None g c =
    let a = c.args.question.now in let p = g.L.Log.past c.args.log.now in
    let i = c.words.invariant in
    let some : 0 < c.words.newer.since = omega (arith, c.words-test.true) in
    subst (λ (os : List Outcome). g.S.Sink.gains c.args.sink.now os c.words.sink)
    (behind_end a p (found_of c.args.step.now) c.words.newer.word (c.words.newer.since - 1) p.first.memory p.events c.args.step.now.ppn c.args.index c.words.newer.since i.0 _
    some refl c.in-None.ensures i.4)
    i.1

pub say_update-requires-clause-last : goal.say_update-requires-clause-last
say_update-requires-clause-last g c = c.words.invariant.2

pub words-preserved : goal.words-preserved
words-preserved g c =
    let a = c.args.question.now in let p = g.L.Log.past c.args.log.now in
    let i = c.words.invariant in
    let found = found_of c.args.step.now in
    let newer = c.words.newer in
    let older = c.in-Some.older in
    let some : 0 < newer.since = omega (arith, c.words-test.true) in
    let late : found.last ≤ newer.since - 1 = omega (arith, c.words-test.true) in
    let told = if sets_ad found.read.word older.word newer.word then update_says_of a p found newer.word else [] in (
      i.0 ++ told,
      g.met.S.Sink.gains_on _ _ _ _ _ i.1 c.say_update.ensures,
      omega (arith, i.3),
      omega (arith, i.3, c.in-Some.ensures.0),
      behind_more a p found newer.word older.word (newer.since - 1) older.since p.first.memory p.events c.args.step.now.ppn c.args.index newer.since i.0 _
          some late refl c.in-Some.ensures.1 i.4,
    )

pub returns : goal.returns
returns g c =
    let a = c.args.question.now in let p = g.L.Log.past c.args.log.now in
    let i = c.words.invariant in
    let low : c.words.newer.since ≤ c.args.step.now.last = omega (arith, c.words-test.false) in
    subst (λ (os : List Outcome). g.S.Sink.gains c.args.sink.now os c.words.sink)
    (behind_old a p (found_of c.args.step.now) c.words.newer.word p.first.memory p.events c.args.step.now.ppn c.args.index c.words.newer.since i.0 _ low i.3 i.4)
    i.1
