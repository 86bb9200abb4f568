use Rattle.std.proofs.Common.{◌≡◌, ◌<◌, length, ◌∙◌, arith}
use Rattle.std.proofs.lemmas.List.{length-set}
use Rattle.lent_history.proofs.Protected.{places_all, places_more}
use Rattle.lent_history.proofs.hart.put_entries.Goals as goal

pub places-preserved : goal.places-preserved
places-preserved c =
    let i = c.places.invariant in
    let room : c.places.n < length c.places.places = omega (arith, i.long, c.places-test.true) in
    let there : c.places.n < length c.args.entries.now = omega (arith, c.told-entries, c.places-test.true) in
    record {
      long = length-set c.places.places c.places.n c.of.result ∙ i.long;
      each = places_more c.places.places c.args.entries.now c.places.n c.of.result (record { config = 0; address = 0 }) room there i.each c.of.ensures;
    }

pub returns : goal.returns
returns c =
    let i = c.places.invariant in
    let last : c.places.n ≡ 64 = omega (arith, c.places-test.false, c.places.auto.n-end) in
    places_all c.places.places c.args.entries.now 64 c.told-entries i.long (rw last at i.each)
