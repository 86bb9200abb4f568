use Rattle.std.proofs.Common.{◌<◌, length, arith}
use Rattle.lent_history.specs.Numbers.{numbers_of}
use Rattle.lent_history.proofs.Places.{contained, contained_all, listed_more}
use Rattle.lent_history.proofs.judging.outcomes.Goals as goal

pub places-preserved : goal.places-preserved
places-preserved c =
    let long = c.places.auto.places in
    let room : c.places.count < length c.places.places = omega (arith, c.places-test.true, long) in
    let new = c.next_outcome.ensures.some c.in-Some.outcome c.in-Some.is in
    listed_more c.args.extensions c.args.history.now c.args.request.now c.places.count c.args.places.now c.places.places c.in-Some.outcome c.of.result room new.0
    c.of.ensures c.places.invariant

pub returns-in-Some-next_outcome-clause-more : goal.returns-in-Some-next_outcome-clause-more
returns-in-Some-next_outcome-clause-more c = λ more.
    let new = c.next_outcome-2.ensures.some c.in-Some-next_outcome.field-0 c.in-Some-next_outcome.is in
    (c.in-Some-next_outcome.field-0, new.0, new.1)

pub returns-in-None-clause-each : goal.returns-in-None-clause-each
returns-in-None-clause-each c = λ within o permits.
    contained_all c.places.places (numbers_of o) (c.next_outcome-2.ensures.none c.in-None.is o permits)

pub returns-in_default-clause-each : goal.returns-in_default-clause-each
returns-in_default-clause-each c = λ within o permits.
    contained c.places.places c.places.count (numbers_of o) (c.next_outcome.ensures.none c.in_default.is o permits)
