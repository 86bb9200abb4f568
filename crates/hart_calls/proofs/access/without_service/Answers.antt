use Rattle.frame_store.specs.Laws.{fits_after, keeps_both}
use Rattle.hart_calls.proofs.Bodies.{still_space}
use Rattle.hart_calls.proofs.access.without_service.Goals as goal

pub accessed-requires-clause-fits : goal.accessed-requires-clause-fits
accessed-requires-clause-fits g c = fits_after g.F.FrameAccess.invariant c.translate-walk.ensures.keeps c.requires.fits

pub accessed-requires-clause-ready : goal.accessed-requires-clause-ready
accessed-requires-clause-ready g c =
    let r = c.requires.ready in
    (r.0, r.1, still_space g.S.FrameSeat.view _ _ c.translate-walk.ensures.reads.view c.translate-walk.ensures.reads.root c.translate-walk.ensures.reads.trapframe c.translate-walk.ensures.reads.layout r.0 r.1 r.2, c.translate-walk.ensures.walk r.0 r.1 r.2)

pub returns-clause-reply : goal.returns-clause-reply
returns-clause-reply g c t p space =
    c.accessed.ensures.reply t p (still_space g.S.FrameSeat.view _ _ c.translate-walk.ensures.reads.view c.translate-walk.ensures.reads.root c.translate-walk.ensures.reads.trapframe c.translate-walk.ensures.reads.layout t p space) (c.translate-walk.ensures.walk t p space)

pub returns-clause-after : goal.returns-clause-after
returns-clause-after g c t p space =
    c.accessed.ensures.after t p (still_space g.S.FrameSeat.view _ _ c.translate-walk.ensures.reads.view c.translate-walk.ensures.reads.root c.translate-walk.ensures.reads.trapframe c.translate-walk.ensures.reads.layout t p space) (c.translate-walk.ensures.walk t p space)

pub returns-clause-keeps : goal.returns-clause-keeps
returns-clause-keeps g c = keeps_both g.F.FrameAccess.invariant c.translate-walk.ensures.keeps c.accessed.ensures.keeps
