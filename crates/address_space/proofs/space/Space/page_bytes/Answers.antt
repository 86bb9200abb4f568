use Rattle.frame_store.specs.Laws.{fits_after}
use Rattle.address_space.proofs.Writing.{on_page}
use Rattle.address_space.proofs.space.Space.page_bytes.Goals as goal

pub read_frame-requires-clause-fits : goal.read_frame-requires-clause-fits
read_frame-requires-clause-fits g c = fits_after g.F.FrameAccess.invariant c.page_frame-frame.ensures.keeps c.requires.fits

pub read_frame-requires-clause-held : goal.read_frame-requires-clause-held
read_frame-requires-clause-held g c =
    let r = c.requires.ready in
    let found = c.page_frame-frame.ensures in
    let here = on_page _ _ _ _ r.0 r.1 _ r.2 _ r.3 (found.frame r.0 r.1 r.2 r.3) in
    rw found.reads.view here.held

pub read_frame-requires-clause-known : goal.read_frame-requires-clause-known
read_frame-requires-clause-known g c =
    let r = c.requires.ready in
    let found = c.page_frame-frame.ensures in
    let here = on_page _ _ _ _ r.0 r.1 _ r.2 _ r.3 (found.frame r.0 r.1 r.2 r.3) in
    ((r.2).bytes, rw found.reads.view here.bytes)

pub returns-clause-bytes : goal.returns-clause-bytes
returns-clause-bytes g c t p s can =
    let found = c.page_frame-frame.ensures in
    let here = on_page _ _ _ _ t p _ s _ can (found.frame t p s can) in
    c.read_frame.ensures.bytes s.bytes (rw found.reads.view here.bytes)

pub returns-clause-keeps : goal.returns-clause-keeps
returns-clause-keeps g c others r = c.read_frame.ensures.keeps others (c.page_frame-frame.ensures.keeps others r)
