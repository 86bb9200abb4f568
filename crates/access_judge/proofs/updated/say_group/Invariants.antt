use Rattle.std.proofs.Common.{◌≡◌, ◌+◌, ◌-◌, ◌++◌, ℕ, List}
use Rattle.std.specs.List.{flat_map, range_with_len}
use Rattle.access_history.specs.declared.outcome.Outcome.{Outcome}
use Rattle.access_judge.specs.Judging.{found_of, place_says_of}
use Rattle.access_judge.proofs.updated.say_group.Given as goal

abbrev pub invariant-group : goal.invariant-group
invariant-group g l =
    let says : ℕ → List Outcome = λ n. place_says_of l.question (g.L.Log.past l.log) (found_of l.step) (l.first + n) in
    (done : List Outcome) × g.S.Sink.gains l.initial.sink done l.sink
    × (done ++ flat_map says (range_with_len l.number (16 - l.number)) ≡ flat_map says (range_with_len 0 16))
