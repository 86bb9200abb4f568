use Rattle.std.proofs.Common.{arith}
use Rattle.frame_store.specs.Laws.{fits_after}
use Rattle.fault_rules.proofs.Results.{err_told, none_taken, not_enough}
use Rattle.fault_rules.proofs.TakenOver.{can_write, resides_dirty, resides_marked}
use Rattle.fault_rules.proofs.take_over.take_over.Goals as goal

pub returns-in_err-unshare-clause-dry : goal.returns-in_err-unshare-clause-dry
returns-in_err-unshare-clause-dry g c = err_told c.from_residual.result _ c.in_err-unshare.ensures.dry

pub returns-in_err-unshare-clause-whole : goal.returns-in_err-unshare-clause-whole
returns-in_err-unshare-clause-whole g c = err_told c.from_residual.result _ c.in_err-unshare.ensures.whole

pub returns-in_err-unshare-clause-exact : goal.returns-in_err-unshare-clause-exact
returns-in_err-unshare-clause-exact g c alone t p shared can told = not_enough c.from_residual.result _ _ c.from_residual.ensures.0 (c.in_err-unshare.ensures.exact alone t p shared can told).1

pub returns-in_err-unshare-clause-free : goal.returns-in_err-unshare-clause-free
returns-in_err-unshare-clause-free g c alone t p shared can told = none_taken c.from_residual.result _ _ _ c.from_residual.ensures.0 (c.in_err-unshare.ensures.free alone t p shared can told)

pub mark_stored-requires-clause-fits : goal.mark_stored-requires-clause-fits
mark_stored-requires-clause-fits g c = fits_after g.F.FrameAccess.invariant c.unshare.ensures.keeps c.requires.fits

pub mark_stored-requires-clause-ready : goal.mark_stored-requires-clause-ready
mark_stored-requires-clause-ready g c =
    let r = c.requires.ready in
    let is = c.requires.settled r.0 r.1 r.2.agrees in
    let un = c.in_ok-unshare.ensures.unshared r.0 r.1 r.2 is in
    (un.0, _, _, can_write c.args.settled.now r.2 is un.2)

pub returns-then-not-settled-clause-resident : goal.returns-then-not-settled-clause-resident
returns-then-not-settled-clause-resident g c files t p can =
    let is = c.requires.settled t p can.agrees in
    let un = c.in_ok-unshare.ensures.unshared t p can is in
    let marked = c.mark_stored.ensures.marked un.0 _ _ (can_write c.args.settled.now can is un.2) in
    (marked.0, un.1, resides_marked c.args.settled.now can is un.2 _ marked.0 files marked.1, un.3)

pub returns-then-not-settled-clause-free : goal.returns-then-not-settled-clause-free
returns-then-not-settled-clause-free g c alone t p shared can told =
    let left = c.in_ok-unshare.ensures.free alone t p shared can told in
    let same = c.mark_stored.ensures.free alone in
    omega (arith, left, same)

pub returns-then-not-settled-clause-keeps : goal.returns-then-not-settled-clause-keeps
returns-then-not-settled-clause-keeps g c others r = c.mark_stored.ensures.keeps others (c.unshare.ensures.keeps others r)

pub returns-else-not-settled-clause-resident : goal.returns-else-not-settled-clause-resident
returns-else-not-settled-clause-resident g c files t p can =
    let is = c.requires.settled t p can.agrees in
    let un = c.in_ok-unshare.ensures.unshared t p can is in
    (un.0, un.1, resides_dirty c.args.settled.now can is un.2 files c.if-not-settled.false, un.3)
