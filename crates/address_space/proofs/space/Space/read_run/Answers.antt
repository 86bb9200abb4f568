use Rattle.std.proofs.Common.{◌≡◌, sym, length, rules}
use Rattle.frame_store.specs.Laws.{fits_after}
use Rattle.address_space.specs.Steps.{at_page}
use Rattle.address_space.proofs.Writing.{on_page}
use Rattle.address_space.proofs.space.Space.read_run.Goals as goal

pub page_frame-frame-requires-clause-ready : goal.page_frame-frame-requires-clause-ready
page_frame-frame-requires-clause-ready g c = let r = c.requires.ready in (r.0, r.1, r.2, rw c.page.ensures.number (at_page r.3))

pub read_run-requires-clause-fits : goal.read_run-requires-clause-fits
read_run-requires-clause-fits g c = fits_after g.F.FrameAccess.invariant c.page_frame-frame.ensures.keeps c.requires.fits

pub read_run-requires-clause-held : goal.read_run-requires-clause-held
read_run-requires-clause-held g c =
    let r = c.requires.ready in
    let found = rw c.page.ensures.number at c.page_frame-frame.ensures in
    rw found.reads.view (on_page _ _ _ _ r.0 r.1 _ r.2 _ (at_page r.3) (found.frame r.0 r.1 r.2 (at_page r.3))).held

pub read_run-requires-clause-known : goal.read_run-requires-clause-known
read_run-requires-clause-known g c =
    let r = c.requires.ready in
    let found = rw c.page.ensures.number at c.page_frame-frame.ensures in
    ((r.2).bytes, rw found.reads.view (on_page _ _ _ _ r.0 r.1 _ r.2 _ (at_page r.3) (found.frame r.0 r.1 r.2 (at_page r.3))).bytes)

pub returns-clause-bytes : goal.returns-clause-bytes
returns-clause-bytes g c t p s can =
    let found = rw c.page.ensures.number at c.page_frame-frame.ensures in
    let here = on_page _ _ _ _ t p _ s _ (at_page can) (found.frame t p s (at_page can)) in
    let same : length c.read_run.new.bytes ≡ length c.args.bytes.now = search rules in
    rw (same, sym c.offset.ensures.value) (c.read_run.ensures.bytes s.bytes (rw found.reads.view here.bytes))

pub returns-clause-keeps : goal.returns-clause-keeps
returns-clause-keeps g c others r = c.read_run.ensures.keeps others (c.page_frame-frame.ensures.keeps others r)
