use Rattle.std.proofs.Common.{◌∙◌}
use Rattle.frame_store.specs.Laws.{fits_after}
use Rattle.fault_rules.proofs.FirstFrames.{can_mark, settles_as, settles_marked}
use Rattle.fault_rules.proofs.Results.{err_told, none_taken, not_enough}
use Rattle.fault_rules.proofs.settle.settle_as.Goals as goal

pub returns-in_err-settle-clause-dry : goal.returns-in_err-settle-clause-dry
returns-in_err-settle-clause-dry g c = err_told c.from_residual.result _ c.in_err-settle.ensures.dry

pub returns-in_err-settle-clause-whole : goal.returns-in_err-settle-clause-whole
returns-in_err-settle-clause-whole g c = err_told c.from_residual.result _ c.in_err-settle.ensures.whole

pub returns-in_err-settle-clause-exact : goal.returns-in_err-settle-clause-exact
returns-in_err-settle-clause-exact g c alone t p can = not_enough c.from_residual.result _ _ c.from_residual.ensures.0 (c.in_err-settle.ensures.exact alone t p can).1

pub returns-in_err-settle-clause-free : goal.returns-in_err-settle-clause-free
returns-in_err-settle-clause-free g c alone t p can = none_taken c.from_residual.result _ _ _ c.from_residual.ensures.0 (c.in_err-settle.ensures.free alone t p can)

pub mark_stored-requires-clause-fits : goal.mark_stored-requires-clause-fits
mark_stored-requires-clause-fits g c = fits_after g.F.FrameAccess.invariant c.settle.ensures.keeps c.requires.fits

pub mark_stored-requires-clause-ready : goal.mark_stored-requires-clause-ready
mark_stored-requires-clause-ready g c =
    let r = c.requires.ready in
    let s = c.in_ok-settle.ensures.settled r.0 r.1 r.2 in
    (s.0, _, _, can_mark r.2 s.2 (c.requires.kept r.0 r.1 r.2 c.if-mark.true))

pub returns-then-mark-clause-settled : goal.returns-then-mark-clause-settled
returns-then-mark-clause-settled g c t p can =
    let s = c.in_ok-settle.ensures.settled t p can in
    let kept = c.requires.kept t p can c.if-mark.true in
    let marked = c.mark_stored.ensures.marked s.0 _ _ (can_mark can s.2 kept) in
    (marked.0, s.1, rw c.if-mark.true (settles_marked can s.2 kept _ marked.0 marked.1))

pub returns-then-mark-clause-free : goal.returns-then-mark-clause-free
returns-then-mark-clause-free g c alone t p can = c.mark_stored.ensures.free alone ∙ c.in_ok-settle.ensures.free alone t p can

pub returns-then-mark-clause-keeps : goal.returns-then-mark-clause-keeps
returns-then-mark-clause-keeps g c others r = c.mark_stored.ensures.keeps others (c.settle.ensures.keeps others r)

pub returns-else-mark-clause-settled : goal.returns-else-mark-clause-settled
returns-else-mark-clause-settled g c t p can =
    let s = c.in_ok-settle.ensures.settled t p can in
    (s.0, s.1, rw c.if-mark.false (settles_as can s.2))
