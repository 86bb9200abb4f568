use Rattle.std.proofs.Common.{arith}
use Rattle.std.proofs.lemmas.Slice.{put_mid-rotated}
use Rattle.lent_memory.specs.declared.entry.LentEntry.{LentEntry}
use Rattle.lent_memory.proofs.Added.{added, is_last, no_place, no_places, which}
use Rattle.lent_memory.proofs.buffer.add.Goals as goal

pub returns-then-gap-places-clause-newest : goal.returns-then-gap-places-clause-newest
returns-then-gap-places-clause-newest c =
    let d : LentEntry = record { address = 0; word = 0; level = 0; asid = 0; global = 0; kind = 0 } in
    let gap = c.unwrap_or-gap.result in
    let lt = c.if-gap-places.true in
    added c.args.places.now _ gap d c.of.result c.args.entry lt
    (put_mid-rotated gap _ c.args.places.now _ d lt (omega (arith, lt)) c.rotate_left.ensures.after)
    c.of.ensures
    (which c.args.places.now c.first_empty.result gap d c.first_empty.ensures.empty c.first_empty.ensures.full c.unwrap_or-gap.ensures lt)

pub returns-else-gap-places-clause-newest : goal.returns-else-gap-places-clause-newest
returns-else-gap-places-clause-newest c =
    no_place c.args.places.now c.args.entry
    (no_places c.args.places.now c.first_empty.result c.unwrap_or-gap.result c.first_empty.ensures.within c.unwrap_or-gap.ensures (omega (arith, c.if-gap-places.false)))

pub returns-then-gap-places-clause-last : goal.returns-then-gap-places-clause-last
returns-then-gap-places-clause-last c = λ some.
    let d : LentEntry = record { address = 0; word = 0; level = 0; asid = 0; global = 0; kind = 0 } in
    let gap = c.unwrap_or-gap.result in
    let lt = c.if-gap-places.true in
    is_last c.args.places.now _ gap d c.of.result c.args.entry (put_mid-rotated gap _ c.args.places.now _ d lt (omega (arith, lt)) c.rotate_left.ensures.after) c.of.ensures some

pub returns-else-gap-places-clause-last : goal.returns-else-gap-places-clause-last
returns-else-gap-places-clause-last c = λ some.
    let none = no_places c.args.places.now c.first_empty.result c.unwrap_or-gap.result c.first_empty.ensures.within c.unwrap_or-gap.ensures (omega (arith, c.if-gap-places.false)) in
    absurd (omega (arith, some, none))
