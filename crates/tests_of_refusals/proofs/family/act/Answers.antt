use Rattle.std.proofs.Common.{◌++◌}
use Rattle.tests_of_refusals.proofs.Seats.{seats_beside}
use Rattle.tests_of_refusals.proofs.family.act.Goals as goal

pub returns-in_default : goal.returns-in_default
returns-in_default g c = record { alive = (c.call.ensures.alive, c.requires.alive.1); keeps = λ others r. c.call.ensures.keeps (seats_beside c.args.child.now ++ others) r }
