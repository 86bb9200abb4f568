use Rattle.std.proofs.Common.{◌≡◌, true}
use Rattle.address_space.specs.Accesses.{gives_leaf, request_of}
use Rattle.address_space.specs.Agreement.{body_of}
use Rattle.frame_store.specs.Laws.{fits_after, keeps_both}
use Rattle.hart_calls.proofs.AtOnce.{made}
use Rattle.hart_calls.proofs.Bodies.{still_space}
use Rattle.process_model.specs.Bytes.{is_width}
use Rattle.std.specs.Prelude.{◌%◌, ◌==◌, ◌&&◌}
use Rattle.hart_calls.proofs.at_once.permitted.Goals as goal

pub accessed-requires-clause-fits : goal.accessed-requires-clause-fits
accessed-requires-clause-fits g c = fits_after g.F.FrameAccess.invariant c.translate-walk.ensures.keeps c.requires.fits

pub accessed-requires-clause-ready : goal.accessed-requires-clause-ready
accessed-requires-clause-ready g c =
    let n = c.translate-walk.ensures in
    let r = c.requires.ready in
    (r.0, r.1, still_space g.S.FrameSeat.view _ _ n.reads.view n.reads.root n.reads.trapframe n.reads.layout r.0 r.1 r.2, n.walk r.0 r.1 r.2)

pub returns-clause-made : goal.returns-clause-made
returns-clause-made g c = λ k is t p space.
    let n = c.translate-walk.ensures in
    let a = request_of c.args.request in
    let here = still_space g.S.FrameSeat.view _ _ n.reads.view n.reads.root n.reads.trapframe n.reads.layout t p space in
    let walk = n.walk t p space in
    let law = c.walks_grant_what_is_resident.ensures (body_of g.S.FrameSeat.view c.args.space.now) t p c.args.request.access c.args.request.va.0 space in
    let wide : is_width c.args.request.width ≡ true = (let e = c.is_width.ensures in let f = c.if-not-is_width.false in cc) in
    let both : (c.args.request.va.0 % c.args.request.width == 0 && gives_leaf c.translate-walk.result) ≡ true = (let e = c.is_permitted.ensures in let f = c.if-not-is_permitted.false in cc) in
    made p a k is wide (body_of g.S.FrameSeat.view c.args.space.now) (body_of g.S.FrameSeat.view c.accessed.new.space) (gives_leaf c.translate-walk.result) both (rw walk law) c.accessed.result (c.accessed.ensures.reply t p here walk) (t, c.accessed.ensures.after t p here walk)

pub returns-clause-keeps : goal.returns-clause-keeps
returns-clause-keeps g c = keeps_both g.F.FrameAccess.invariant c.translate-walk.ensures.keeps c.accessed.ensures.keeps
