use Rattle.std.proofs.Common.{◌≡◌, true, ap, sym, ◌∙◌, subst, refl, inl, inr}
use Rattle.address_space.specs.Accesses.{request_of, gives_leaf}
use Rattle.address_space.specs.Agreement.{body_of}
use Rattle.fault_rules.proofs.Allowed.{can_reside}
use Rattle.fault_rules.specs.MadeResident.{is_shared_by}
use Rattle.fault_rules.specs.declared.service.Served.TheVariants as served
use Rattle.address_space.specs.Steps.{RunsDry}
use Rattle.frame_store.specs.Laws.{fits_after, keeps_both}
use Rattle.frame_store.specs.View.{View}
use Rattle.hart_calls.specs.CallResults.{ClaimsNone}
use Rattle.std.specs.Prelude.{option_to_list}
use Rattle.process_model.specs.Frames.{resident_need}
use Rattle.hart_calls.proofs.Accessed.{access_reads_file, as_told, bad_width, ended_served, ended_why, ends_denied, ends_dry_by, granted, is_access_call, made_at_once, made_later, not_dry, not_granted, q, ready_none, ready_served, some_width}
use Rattle.hart_calls.proofs.Bodies.{still_space}
use Rattle.process_model.specs.Bytes.{is_width}
use Rattle.process_model.specs.Residence.{made_resident}
use Rattle.sv39_entry.specs.Address.{page_of}
use Rattle.hart_calls.proofs.access.access.Goals as goal

pub returns-then-not-is_width-clause-call_result : goal.returns-then-not-is_width-clause-call_result
returns-then-not-is_width-clause-call_result g c =
    rw c.scalar.ensures (λ k is t p space. (tt, bad_width (g.C.Files.files c.args.files.now) p (request_of c.args.request) k is (let e = c.is_width.ensures in let f = c.if-not-is_width.true in cc) (body_of g.S.FrameSeat.view c.args.space.now) (body_of g.S.FrameSeat.view c.args.space.now) _ _ _ (t, space) (g.met.C.Files.stays c.args.files.now)))

pub accessed-requires-clause-fits : goal.accessed-requires-clause-fits
accessed-requires-clause-fits g c = fits_after g.F.FrameAccess.invariant c.translate-walk.ensures.keeps c.requires.fits

pub accessed-requires-clause-ready : goal.accessed-requires-clause-ready
accessed-requires-clause-ready g c =
    let n = c.translate-walk.ensures in
    let r = c.requires.ready in
    (r.0, r.1, still_space g.S.FrameSeat.view _ _ n.reads.view n.reads.root n.reads.trapframe n.reads.layout r.0 r.1 r.2, n.walk r.0 r.1 r.2)

pub returns-then-is_permitted-clause-call_result : goal.returns-then-is_permitted-clause-call_result
returns-then-is_permitted-clause-call_result g c = λ k is t p space.
    let n = c.translate-walk.ensures in
    let a = request_of c.args.request in
    let here = still_space g.S.FrameSeat.view _ _ n.reads.view n.reads.root n.reads.trapframe n.reads.layout t p space in
    let walk = n.walk t p space in
    let law = c.walks_grant_what_is_resident.ensures (body_of g.S.FrameSeat.view c.args.space.now) t p c.args.request.access c.args.request.va.0 space in
    let both = granted (g.C.Files.files c.args.files.now) p a (gives_leaf c.translate-walk.result) (sym c.is_permitted.ensures ∙ c.if-is_permitted.true) (rw walk law) in
    let wide : is_width c.args.request.width ≡ true = (let e = c.is_width.ensures in let f = c.if-not-is_width.false in cc) in
    made_at_once (g.C.Files.files c.args.files.now) p a k is wide (body_of g.S.FrameSeat.view c.args.space.now) (body_of g.S.FrameSeat.view c.accessed.new.space) _ _ _ both.0 both.1 c.accessed.result (c.accessed.ensures.reply t p here walk) (t, c.accessed.ensures.after t p here walk)
    (g.met.C.Files.stays c.args.files.now)

pub returns-then-is_permitted-clause-keeps : goal.returns-then-is_permitted-clause-keeps
returns-then-is_permitted-clause-keeps g c = keeps_both g.F.FrameAccess.invariant c.translate-walk.ensures.keeps c.accessed.ensures.keeps

pub returns-in-Ready-clause-call_result : goal.returns-in-Ready-clause-call_result
returns-in-Ready-clause-call_result g c = λ k is t p space.
    let n = c.translate-walk.ensures in
    let a = request_of c.args.request in
    let files = g.C.Files.files c.args.files.now in
    let x = body_of g.S.FrameSeat.view c.args.space.now in
    let here = still_space g.S.FrameSeat.view _ _ n.reads.view n.reads.root n.reads.trapframe n.reads.layout t p space in
    let law = c.walks_grant_what_is_resident.ensures x t p c.args.request.access c.args.request.va.0 space in
    let wide : is_width c.args.request.width ≡ true = (let e = c.is_width.ensures in let f = c.if-not-is_width.false in cc) in
    let none = ready_none files p a (c.in-Ready.ensures.served.ended t p here) in
    let not = not_granted files p a (gives_leaf c.translate-walk.result) (sym c.is_permitted.ensures ∙ c.if-is_permitted.false) (rw (n.walk t p space) law) none in
    let r = c.in-Ready.ensures.served.ready refl t p (can_reside (body_of g.S.FrameSeat.view c.translate-walk.new.self) t p c.args.request.access c.args.request.va.0 c.args.request.width here none) in
    let there = as_told files p a (body_of g.S.FrameSeat.view c.serve.new.space) r.0 (is_shared_by r.1) (r.2.agrees 0) in
    made_later files p a k is wide x (body_of g.S.FrameSeat.view c.without_service.new.space) _ _ _ none not c.without_service.result (c.without_service.ensures.reply r.0 (q files p a) there) (r.0, c.without_service.ensures.after r.0 (q files p a) there)
    (c.in-Ready.ensures.served.moves ready_served t p here)

pub returns-in-Ended-clause-call_result : goal.returns-in-Ended-clause-call_result
returns-in-Ended-clause-call_result g c = λ k is t p space.
    let n = c.translate-walk.ensures in
    let a = request_of c.args.request in
    let files = g.C.Files.files c.args.files.now in
    let x = body_of g.S.FrameSeat.view c.args.space.now in
    let y = body_of g.S.FrameSeat.view c.serve.new.space in
    let e = c.in-Ended.ensures.served in
    let here = still_space g.S.FrameSeat.view _ _ n.reads.view n.reads.root n.reads.trapframe n.reads.layout t p space in
    let law = c.walks_grant_what_is_resident.ensures x t p c.args.request.access c.args.request.va.0 space in
    let wide : is_width c.args.request.width ≡ true = (let e = c.is_width.ensures in let f = c.if-not-is_width.false in cc) in
    let whole = e.whole c.in-Ended.rule refl t p here in
    let moves = e.moves (ended_served c.in-Ended.rule) t p here in
    let why = ended_why files p a c.in-Ended.rule (e.ended t p here) in (
      elim why [
        | inl by ↦ ends_denied files p a k is wide x y _ _ _ c.in-Ended.rule by (t, whole) moves
        | inr both ↦
            let none = both.0 in
            let not = not_granted files p a (gives_leaf c.translate-walk.result) (sym c.is_permitted.ensures ∙ c.if-is_permitted.false) (rw (n.walk t p space) law) none in
            let dry = e.dry (ap served.Ended both.1) t p (can_reside (body_of g.S.FrameSeat.view c.translate-walk.new.self) t p c.args.request.access c.args.request.va.0 c.args.request.width here none) in
            ends_dry_by files p a k is wide x y _ _ _ c.in-Ended.rule both.1 none not dry.0 dry.1 (subst (λ (v : View). RunsDry v (g.S.FrameSeat.view c.serve.new.space.seat) (resident_need (is_shared_by dry.0) p c.args.request.access (page_of c.args.request.va.0)) (option_to_list dry.0)) n.reads.view dry.2) (t, whole) moves
      ],
      elim why as (λ _. ClaimsNone x.view y.view) [
        | inl by ↦ ap (λ (v : View). v.tallies.claims) ((e.stays ((λ is. cc), not_dry files p a c.in-Ended.rule by)).view ∙ n.reads.view)
        | inr both ↦
            let dry = e.dry (ap served.Ended both.1) t p (can_reside (body_of g.S.FrameSeat.view c.translate-walk.new.self) t p c.args.request.access c.args.request.va.0 c.args.request.width here both.0) in
            dry.2.claims ∙ ap (λ (v : View). v.tallies.claims) n.reads.view
      ],
    )

pub returns-in-Unserved-clause-call_result : goal.returns-in-Unserved-clause-call_result
returns-in-Unserved-clause-call_result g c = λ k is t p space.
    let n = c.translate-walk.ensures in
    let e = c.in-Unserved.ensures.served in
    let here = still_space g.S.FrameSeat.view _ _ n.reads.view n.reads.root n.reads.trapframe n.reads.layout t p space in
    let x = e.unpromised c.in-Unserved.refusal refl in (
      is_access_call k (request_of c.args.request) is,
      record {
        could = (c.args.files.now, x.0, g.met.C.Files.stays c.args.files.now, x.1, x.2);
        of_file = access_reads_file (g.C.Files.files c.args.files.now) p k (request_of c.args.request) is (let w = c.is_width.ensures in let f = c.if-not-is_width.false in cc) (e.of_file c.in-Unserved.refusal refl t p here);
        claims = ap (λ (v : View). v.tallies.claims) ((e.stays ((λ is. cc), (λ is. cc))).view ∙ n.reads.view);
        space = (t, still_space g.S.FrameSeat.view c.translate-walk.new.self c.serve.new.space (e.stays ((λ is. cc), (λ is. cc))).view e.place.root e.place.trapframe e.place.layout t p here);
        moves = e.files_stay c.in-Unserved.refusal refl;
      },
    )

pub serve-requires-clause-fits : goal.serve-requires-clause-fits
serve-requires-clause-fits g c = fits_after g.F.FrameAccess.invariant c.translate-walk.ensures.keeps c.requires.fits

pub serve-requires-clause-width : goal.serve-requires-clause-width
serve-requires-clause-width g c = some_width c.args.request.width (let e = c.is_width.ensures in let f = c.if-not-is_width.false in cc)

pub serve-requires-clause-ready : goal.serve-requires-clause-ready
serve-requires-clause-ready g c =
    let n = c.translate-walk.ensures in
    let r = c.requires.ready in
    (r.0, r.1, still_space g.S.FrameSeat.view _ _ n.reads.view n.reads.root n.reads.trapframe n.reads.layout r.0 r.1 r.2)

pub without_service-requires-clause-fits : goal.without_service-requires-clause-fits
without_service-requires-clause-fits g c = fits_after g.F.FrameAccess.invariant c.serve.ensures.served.keeps (fits_after g.F.FrameAccess.invariant c.translate-walk.ensures.keeps c.requires.fits)

pub without_service-requires-clause-ready : goal.without_service-requires-clause-ready
without_service-requires-clause-ready g c =
    let n = c.translate-walk.ensures in
    let p = c.requires.ready in
    let here = still_space g.S.FrameSeat.view _ _ n.reads.view n.reads.root n.reads.trapframe n.reads.layout p.0 p.1 p.2 in
    let none = ready_none (g.C.Files.files c.args.files.now) p.1 (request_of c.args.request) (c.in-Ready.ensures.served.ended p.0 p.1 here) in
    let r = c.in-Ready.ensures.served.ready refl p.0 p.1 (can_reside (body_of g.S.FrameSeat.view c.translate-walk.new.self) p.0 p.1 c.args.request.access c.args.request.va.0 c.args.request.width here none) in
    (r.0, made_resident (g.C.Files.files c.args.files.now) 0 (is_shared_by r.1) p.1 c.args.request.access (page_of c.args.request.va.0), r.2.agrees 0)

pub returns-in-Ready-clause-keeps : goal.returns-in-Ready-clause-keeps
returns-in-Ready-clause-keeps g c = λ others r. c.without_service.ensures.keeps others (c.serve.ensures.served.keeps others (c.translate-walk.ensures.keeps others r))

pub returns-in-Ended-clause-keeps : goal.returns-in-Ended-clause-keeps
returns-in-Ended-clause-keeps g c = λ others r. c.serve.ensures.served.keeps others (c.translate-walk.ensures.keeps others r)

pub returns-in-Unserved-clause-keeps : goal.returns-in-Unserved-clause-keeps
returns-in-Unserved-clause-keeps g c = λ others r. c.serve.ensures.served.keeps others (c.translate-walk.ensures.keeps others r)
