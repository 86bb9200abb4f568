use Rattle.hart_calls.proofs.tracked.Tracked.next_call.Goals as goal

pub returns-in-Some-clause-files : goal.returns-in-Some-clause-files
returns-in-Some-clause-files g c = rw c.in-Some.is c.turn.ensures.files
