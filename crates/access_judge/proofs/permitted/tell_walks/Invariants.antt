use Rattle.std.proofs.Common.{◌≡◌, List, [], ◌++◌, drop}
use Rattle.std.specs.List.{flat_map}
use Rattle.access_history.specs.declared.outcome.Outcome.{Outcome}
use Rattle.access_judge.specs.Judging.{root_says, table_says}
use Rattle.access_judge.specs.Sifting.{Sifts}
use Rattle.access_judge.proofs.permitted.tell_walks.Given as goal

abbrev pub invariant-uses : goal.invariant-uses
invariant-uses g l =
    let us = g.L.Log.uses_of l.log in
    let says = root_says l.question (g.L.Log.past l.log) in
    (done : List Outcome) × Sifts g.S.Sink.gains g.S.Sink.has (table_says l.question (g.L.Log.past l.log)) l.initial.sink [] done l.sink l.seen × (done ++ flat_map says (drop l.number us) ≡ flat_map says us)
