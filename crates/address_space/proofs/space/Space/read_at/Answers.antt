use Rattle.std.proofs.Common.{sym}
use Rattle.address_space.specs.Steps.{at_page}
use Rattle.address_space.proofs.Writing.{offset_aligned, on_page}
use Rattle.address_space.proofs.space.Space.read_at.Goals as goal

pub load_bytes-requires-clause-held : goal.load_bytes-requires-clause-held
load_bytes-requires-clause-held g c =
    let r = c.requires.ready in
    (on_page _ _ _ _ r.0 r.1 _ r.2 _ (at_page r.3) r.4).held

pub load_bytes-requires-clause-known : goal.load_bytes-requires-clause-known
load_bytes-requires-clause-known g c =
    let r = c.requires.ready in
    ((r.2).bytes, (on_page _ _ _ _ r.0 r.1 _ r.2 _ (at_page r.3) r.4).bytes)

pub load_bytes-requires-clause-aligned : goal.load_bytes-requires-clause-aligned
load_bytes-requires-clause-aligned g c = rw c.offset.ensures.value (offset_aligned c.args.va.0 c.args.width c.requires.width c.requires.aligned)

pub returns-clause-value : goal.returns-clause-value
returns-clause-value g c t p s can on =
    rw (sym c.offset.ensures.value) (c.load_bytes.ensures.number s.bytes (on_page _ _ _ _ t p _ s _ (at_page can) on).bytes)
