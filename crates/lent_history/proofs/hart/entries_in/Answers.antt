use Rattle.std.proofs.Common.{◌≡◌, ◌<◌, length, ◌∙◌, arith}
use Rattle.std.proofs.lemmas.List.{length-set}
use Rattle.lent_history.proofs.Protected.{entries_all, entries_more}
use Rattle.lent_history.proofs.hart.entries_in.Goals as goal

pub places-preserved : goal.places-preserved
places-preserved c =
    let i = c.places.invariant in
    let room : c.places.n < length c.places.entries = omega (arith, i.long, c.places-test.true) in
    let there : c.places.n < length c.args.places.now = omega (arith, c.told-places, c.places-test.true) in
    record {
      long = length-set c.places.entries c.places.n c.entry.result ∙ i.long;
      each = entries_more c.args.places.now c.places.entries c.places.n c.entry.result (record { config = 0; address = 0 }) room there i.each c.entry.ensures;
    }

pub returns : goal.returns
returns c =
    let i = c.places.invariant in
    let last : c.places.n ≡ 64 = omega (arith, c.places-test.false, c.places.auto.n-end) in
    entries_all c.args.places.now c.places.entries 64 i.long c.told-places (rw last at i.each)
