use Rattle.std.proofs.Common.{ap, sym, ◌∙◌}
use Rattle.frame_store.specs.Laws.{fits_after}
use Rattle.address_space.specs.Steps.{at_page}
use Rattle.address_space.proofs.space.Space.write.Goals as goal

pub page_frame-frame-requires-clause-ready : goal.page_frame-frame-requires-clause-ready
page_frame-frame-requires-clause-ready g c = let r = c.requires.ready in (r.0, r.1, r.2, rw c.page.ensures.number (at_page r.3.read))

pub write_at-requires-clause-fits : goal.write_at-requires-clause-fits
write_at-requires-clause-fits g c = fits_after g.F.FrameAccess.invariant c.page_frame-frame.ensures.keeps c.requires.fits

pub write_at-requires-clause-ready : goal.write_at-requires-clause-ready
write_at-requires-clause-ready g c =
    let r = c.requires.ready in
    let found = rw c.page.ensures.number at c.page_frame-frame.ensures in
    (r.0, r.1, r.2, rw (found.reads.view, found.reads.root, found.reads.trapframe, found.reads.layout) r.3, found.frame r.0 r.1 r.2 (at_page r.3.read))

pub returns-clause-agrees : goal.returns-clause-agrees
returns-clause-agrees g c t p s can =
    let found = rw c.page.ensures.number at c.page_frame-frame.ensures in
    c.write_at.ensures.agrees t p s (rw (found.reads.view, found.reads.root, found.reads.trapframe, found.reads.layout) can) (found.frame t p s (at_page can.read))

pub returns-clause-keeps : goal.returns-clause-keeps
returns-clause-keeps g c others r = c.write_at.ensures.keeps others (c.page_frame-frame.ensures.keeps others r)

pub returns-clause-free : goal.returns-clause-free
returns-clause-free g c alone = c.write_at.ensures.free alone ∙ ap g.F.FrameAccess.free c.page_frame-frame.ensures.reads.same

pub returns-clause-counts : goal.returns-clause-counts
returns-clause-counts g c alone f = c.write_at.ensures.counts alone f ∙ ap (λ x. g.F.FrameAccess.count x f) c.page_frame-frame.ensures.reads.same

pub returns-clause-tallies : goal.returns-clause-tallies
returns-clause-tallies g c = rw (sym c.page_frame-frame.ensures.reads.view) c.write_at.ensures.tallies
