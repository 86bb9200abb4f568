use Rattle.std.proofs.Common.{rules}
use Rattle.access_judge.proofs.saying.refuse.Goals as goal

pub returns-in-Some : goal.returns-in-Some
returns-in-Some g c =
    let two = g.met.S.Sink.gains_on _ _ _ _ _ c.tell-in-Some.ensures c.tell-in-Some-2.ensures in search (rules, two)
