use Rattle.frame_store.specs.Laws.{fits_after}
use Rattle.address_space.specs.Steps.{at_page}
use Rattle.address_space.proofs.space.Space.read.Goals as goal

pub page_frame-frame-requires-clause-ready : goal.page_frame-frame-requires-clause-ready
page_frame-frame-requires-clause-ready g c = let r = c.requires.ready in (r.0, r.1, r.2, rw c.page.ensures.number (at_page r.3))

pub read_at-requires-clause-fits : goal.read_at-requires-clause-fits
read_at-requires-clause-fits g c = fits_after g.F.FrameAccess.invariant c.page_frame-frame.ensures.keeps c.requires.fits

pub read_at-requires-clause-ready : goal.read_at-requires-clause-ready
read_at-requires-clause-ready g c =
    let r = c.requires.ready in
    let found = rw c.page.ensures.number at c.page_frame-frame.ensures in
    (r.0, r.1, r.2, rw (found.reads.view, found.reads.root, found.reads.trapframe, found.reads.layout) r.3, found.frame r.0 r.1 r.2 (at_page r.3))

pub returns-clause-value : goal.returns-clause-value
returns-clause-value g c t p s can =
    let found = rw c.page.ensures.number at c.page_frame-frame.ensures in
    c.read_at.ensures.value t p s (rw (found.reads.view, found.reads.root, found.reads.trapframe, found.reads.layout) can) (found.frame t p s (at_page can))

pub returns-clause-keeps : goal.returns-clause-keeps
returns-clause-keeps g c others r = c.read_at.ensures.keeps others (c.page_frame-frame.ensures.keeps others r)
