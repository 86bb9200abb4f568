use Rattle.address_space.specs.Steps.{at_page}
use Rattle.address_space.proofs.Writing.{offset_aligned, on_page, page_sole, page_written, words_take}
use Rattle.address_space.proofs.space.Space.write_at.Goals as goal

pub store_bytes-requires-clause-held : goal.store_bytes-requires-clause-held
store_bytes-requires-clause-held g c =
    let r = c.requires.ready in
    (on_page _ _ _ _ r.0 r.1 _ r.2 _ (at_page r.3.read) r.4).held

pub store_bytes-requires-clause-sole : goal.store_bytes-requires-clause-sole
store_bytes-requires-clause-sole g c =
    let r = c.requires.ready in
    page_sole _ _ _ _ r.0 r.1 _ r.2 _ r.3 (on_page _ _ _ _ r.0 r.1 _ r.2 _ (at_page r.3.read) r.4)

pub store_bytes-requires-clause-known : goal.store_bytes-requires-clause-known
store_bytes-requires-clause-known g c =
    let r = c.requires.ready in
    ((r.2).bytes, (on_page _ _ _ _ r.0 r.1 _ r.2 _ (at_page r.3.read) r.4).bytes)

pub store_bytes-requires-clause-aligned : goal.store_bytes-requires-clause-aligned
store_bytes-requires-clause-aligned g c = rw c.offset.ensures.value (offset_aligned c.args.va.0 c.args.width c.requires.width c.requires.aligned)

pub returns-clause-agrees : goal.returns-clause-agrees
returns-clause-agrees g c t p s can on =
    let here = on_page _ _ _ _ t p _ s _ (at_page can.read) on in
    let has = c.store_bytes.ensures.bytes s.bytes here.bytes in
    page_written _ _ _ _ _ t p _ s _ _ can.read here c.store_bytes.ensures.others (rw c.offset.ensures.value at has)

pub returns-clause-tallies : goal.returns-clause-tallies
returns-clause-tallies g c = words_take _ _ _ c.store_bytes.ensures.others
