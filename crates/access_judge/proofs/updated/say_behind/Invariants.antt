use Rattle.std.proofs.Common.{◌≡◌, ◌≤◌, ◌++◌, ℕ, List, length}
use Rattle.access_history.specs.declared.outcome.Outcome.{Outcome}
use Rattle.access_judge.specs.Judging.{behind_say, found_of}
use Rattle.access_judge.specs.Log.{versions_before}
use Rattle.access_judge.proofs.updated.say_behind.Given as goal

abbrev pub invariant-words : goal.invariant-words
invariant-words g l =
    let p = g.L.Log.past l.log in
    let says : ℕ → ℕ → List Outcome = λ w since. behind_say l.question p (found_of l.step) w (versions_before p.first.memory p.events l.step.ppn l.index since) in
    (done : List Outcome) × g.S.Sink.gains l.initial.sink done l.sink × (l.moment ≤ length p.events) × (l.newer.since ≤ length p.events)
    × (done ++ says l.newer.word l.newer.since ≡ says l.fn.newest.word l.fn.newest.since)

abbrev pub decreases-words : goal.decreases-words
decreases-words g l = l.newer.since
