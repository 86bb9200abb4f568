use Rattle.std.proofs.Common.{ap, ◌∙◌}
use Rattle.frame_store.specs.Laws.{fits_after}
use Rattle.address_space.specs.Steps.{at_page}
use Rattle.address_space.proofs.Writing.{on_page, page_sole, page_written, words_sole, words_take}
use Rattle.address_space.proofs.space.Space.write_run.Goals as goal

pub page_frame-frame-requires-clause-ready : goal.page_frame-frame-requires-clause-ready
page_frame-frame-requires-clause-ready g c = let r = c.requires.ready in (r.0, r.1, r.2, rw c.page.ensures.number (at_page r.3.read))

pub write_run-requires-clause-fits : goal.write_run-requires-clause-fits
write_run-requires-clause-fits g c = fits_after g.F.FrameAccess.invariant c.page_frame-frame.ensures.keeps c.requires.fits

pub write_run-requires-clause-held : goal.write_run-requires-clause-held
write_run-requires-clause-held g c =
    let r = c.requires.ready in
    let found = rw c.page.ensures.number at c.page_frame-frame.ensures in
    rw found.reads.view (on_page _ _ _ _ r.0 r.1 _ r.2 _ (at_page r.3.read) (found.frame r.0 r.1 r.2 (at_page r.3.read))).held

pub write_run-requires-clause-sole : goal.write_run-requires-clause-sole
write_run-requires-clause-sole g c =
    let r = c.requires.ready in
    let found = rw c.page.ensures.number at c.page_frame-frame.ensures in
    rw found.reads.view (page_sole _ _ _ _ r.0 r.1 _ r.2 _ r.3 (on_page _ _ _ _ r.0 r.1 _ r.2 _ (at_page r.3.read) (found.frame r.0 r.1 r.2 (at_page r.3.read))))

pub write_run-requires-clause-known : goal.write_run-requires-clause-known
write_run-requires-clause-known g c =
    let r = c.requires.ready in
    let found = rw c.page.ensures.number at c.page_frame-frame.ensures in
    ((r.2).bytes, rw found.reads.view (on_page _ _ _ _ r.0 r.1 _ r.2 _ (at_page r.3.read) (found.frame r.0 r.1 r.2 (at_page r.3.read))).bytes)

pub returns-clause-agrees : goal.returns-clause-agrees
returns-clause-agrees g c t p s can =
    let found = rw c.page.ensures.number at c.page_frame-frame.ensures in
    let here = on_page _ _ _ _ t p _ s _ (at_page can.read) (found.frame t p s (at_page can.read)) in
    let has = c.write_run.ensures.bytes s.bytes (rw found.reads.view here.bytes) in
    rw (found.reads.root, found.reads.trapframe, found.reads.layout) (page_written _ _ _ _ _ t p _ s _ _ can.read here (rw found.reads.view at c.write_run.ensures.others) (rw c.offset.ensures.value at has))

pub returns-clause-soles : goal.returns-clause-soles
returns-clause-soles g c f sole = words_sole _ _ _ (rw c.page_frame-frame.ensures.reads.view at c.write_run.ensures.others) f sole

pub returns-clause-keeps : goal.returns-clause-keeps
returns-clause-keeps g c others r = c.write_run.ensures.keeps others (c.page_frame-frame.ensures.keeps others r)

pub returns-clause-free : goal.returns-clause-free
returns-clause-free g c alone = c.write_run.ensures.free alone ∙ ap g.F.FrameAccess.free c.page_frame-frame.ensures.reads.same

pub returns-clause-counts : goal.returns-clause-counts
returns-clause-counts g c alone f = c.write_run.ensures.counts alone f ∙ ap (λ x. g.F.FrameAccess.count x f) c.page_frame-frame.ensures.reads.same

pub returns-clause-tallies : goal.returns-clause-tallies
returns-clause-tallies g c = words_take _ _ _ (rw c.page_frame-frame.ensures.reads.view at c.write_run.ensures.others)
