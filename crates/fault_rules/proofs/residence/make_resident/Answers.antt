use Rattle.std.proofs.Common.{◌≡◌, ◌-◌, ◌<◌, ◌≤◌, ap, refl, rules, sym, subst, ◌∙◌, arith, Err, None}
use denote.Enum.Bare.{same_true}
use Rattle.std.proofs.lemmas.Bool.{false≢true}
use Rattle.std.proofs.lemmas.Result.{err_from_is_err_and}
use Rattle.address_space.specs.Agreement.{body_of, IsSpace, same_body}
use Rattle.fault_rules.specs.MadeResident.{CanMakeResident, HasMadeResident, MakesResident, LacksFrames, WhenMadeResident}
use Rattle.fault_rules.proofs.Results.{carried, too_few}
use Rattle.fault_rules.proofs.Services.{after_reading, made_ready, ran_dry}
use Rattle.fault_rules.proofs.StillResident.{page_low, still_moves, still_need, still_resides}
use Rattle.frame_store.specs.Laws.{fits_after}
use Rattle.address_space.specs.SpacesInCalls.{space_in_call}
use Rattle.process_model.specs.PageMap.{get}
use Rattle.process_model.specs.Process.{Process}
use Rattle.sv39_entry.specs.Schemes.{trapframe_page}
use Rattle.sv39_entry.specs.contracts.access.Access.{the_type}
use Rattle.sv39_entry.specs.declared.access.Access.TheVariants.{Store}
use Rattle.table_walk.specs.Tables.{Tables}
use Rattle.fault_rules.proofs.residence.make_resident.Goals as goal

pub settled_page-requires-clause-ready : goal.settled_page-requires-clause-ready
settled_page-requires-clause-ready g c = let r = c.requires.ready in (r.0, r.1, space_in_call r.2.agrees)

pub settled_page-requires-clause-low : goal.settled_page-requires-clause-low
settled_page-requires-clause-low g c =
    let r = c.requires.ready in
    subst (λ z. c.args.page < trapframe_page z) r.2.agrees.lays.scheme (page_low _ r.0 r.1 c.args.access c.args.page r.2)

-- ---- a page without a frame

pub settle_initial-requires-clause-fits : goal.settle_initial-requires-clause-fits
settle_initial-requires-clause-fits g c =
    fits_after g.F.FrameAccess.invariant c.settled_page.ensures.keeps c.requires.fits

pub settle_initial-requires-clause-ready : goal.settle_initial-requires-clause-ready
settle_initial-requires-clause-ready g c =
    let read = c.settled_page.ensures in
    let body = same_body g.S.FrameSeat.view c.settled_page.new.self c.args.space.now read.reads.view read.reads.root read.reads.trapframe read.reads.layout in
    let r = c.requires.ready in
    (r.0, r.1, subst (λ b. CanMakeResident b r.0 r.1 c.args.access c.args.page) (sym body) r.2)

pub settle_initial-requires-clause-unsettled : goal.settle_initial-requires-clause-unsettled
settle_initial-requires-clause-unsettled g c t p space =
    let read = c.settled_page.ensures in
    let body = same_body g.S.FrameSeat.view c.settled_page.new.self c.args.space.now read.reads.view read.reads.root read.reads.trapframe read.reads.layout in
    c.in_default.ensures.page t p (space_in_call (subst (λ b. IsSpace b t p) body space))

pub returns-in_default : goal.returns-in_default
returns-in_default g c =
    record { served = after_reading _ _ _ _ _ _ _ _ _ _ _ _ _ c.settled_page.ensures.reads c.settled_page.ensures.keeps c.settle_initial.ensures.served }

-- ---- a settled page, for a store

pub take_over-requires-clause-fits : goal.take_over-requires-clause-fits
take_over-requires-clause-fits g c =
    fits_after g.F.FrameAccess.invariant c.settled_page.ensures.keeps c.requires.fits

pub take_over-requires-clause-ready : goal.take_over-requires-clause-ready
take_over-requires-clause-ready g c =
    let read = c.settled_page.ensures in
    let body = same_body g.S.FrameSeat.view c.settled_page.new.self c.args.space.now read.reads.view read.reads.root read.reads.trapframe read.reads.layout in
    let is : c.args.access ≡ Store = same_true the_type (search rules) _ _ (sym c.eq.ensures ∙ c.if-eq.true) in
    let r = c.requires.ready in
    let page = (c.in-Some.ensures.page r.0 r.1 (space_in_call r.2.agrees)).0 in
    let now = body_of g.S.FrameSeat.view c.settled_page.new.self in
    (r.0, r.1, subst (λ n. CanMakeResident now r.0 r.1 Store n) (sym page) (subst (λ a. CanMakeResident now r.0 r.1 a c.args.page) is (subst (λ b. CanMakeResident b r.0 r.1 c.args.access c.args.page) (sym body) r.2)))

pub take_over-requires-clause-settled : goal.take_over-requires-clause-settled
take_over-requires-clause-settled g c t p space =
    let read = c.settled_page.ensures in
    let body = same_body g.S.FrameSeat.view c.settled_page.new.self c.args.space.now read.reads.view read.reads.root read.reads.trapframe read.reads.layout in
    (c.in-Some.ensures.page t p (space_in_call (subst (λ b. IsSpace b t p) body space))).1

pub returns-in_err-take_over : goal.returns-in_err-take_over
returns-in_err-take_over g c =
    let read = c.settled_page.ensures in
    let body = same_body g.S.FrameSeat.view c.settled_page.new.self c.args.space.now read.reads.view read.reads.root read.reads.trapframe read.reads.layout in
    let is : c.args.access ≡ Store = same_true the_type (search rules) _ _ (sym c.eq.ensures ∙ c.if-eq.true) in
    let r = c.requires.ready in
    let page = (c.in-Some.ensures.page r.0 r.1 (space_in_call r.2.agrees)).0 in
    let reads = λ (t : Tables) (p : Process) (can : CanMakeResident (body_of g.S.FrameSeat.view c.args.space.now) t p c.args.access c.args.page).
    let found = c.in-Some.ensures.page t p (space_in_call can.agrees) in
    let none = still_moves can found.1.page (ap (get p.settled) (sym found.0) ∙ found.1.settled) (g.C.Files.files c.args.files.now) in
    subst (λ ms. g.C.Files.becomes c.args.files.now ms c.args.files.now) (sym none) (g.met.C.Files.stays c.args.files.now) in
    let told = err_from_is_err_and c.from_residual.result c.from_residual.ensures.1 in
    let taken = c.in_err-take_over.ensures in
    record {
      served = ran_dry _ _ _ _ _ r _ (told.1 ∙ ap Err told.2)
          (carried (λ b s a n. LacksFrames b (body_of g.S.FrameSeat.view c.take_over.new.space) a n) body read.reads.same (sym is) page taken.dry)
          (λ t p space. taken.whole t p (subst (λ b. IsSpace b t p) (sym body) space)) reads
          (λ alone. carried (λ b s a n. WhenMadeResident b a n (g.F.FrameAccess.count s) (λ need. g.F.FrameAccess.free s < need)) body read.reads.same (sym is) page
          (λ u q sh ready by. too_few _ _ (taken.exact alone u q sh ready by).1))
          (λ alone. carried (λ b s a n. WhenMadeResident b a n (g.F.FrameAccess.count s) (λ need. g.F.FrameAccess.free c.take_over.new.store ≡ g.F.FrameAccess.free s - 0)) body read.reads.same (sym is) page
          (taken.free alone))
          (record { root = taken.place.root ∙ read.reads.root; trapframe = taken.place.trapframe ∙ read.reads.trapframe; layout = taken.place.layout ∙ read.reads.layout }) (λ others rule. taken.keeps others (read.keeps others rule));
    }

pub returns-in_ok-take_over : goal.returns-in_ok-take_over
returns-in_ok-take_over g c =
    let read = c.settled_page.ensures in
    let body = same_body g.S.FrameSeat.view c.settled_page.new.self c.args.space.now read.reads.view read.reads.root read.reads.trapframe read.reads.layout in
    let is : c.args.access ≡ Store = same_true the_type (search rules) _ _ (sym c.eq.ensures ∙ c.if-eq.true) in
    let r = c.requires.ready in
    let page = (c.in-Some.ensures.page r.0 r.1 (space_in_call r.2.agrees)).0 in
    let reads = λ (t : Tables) (p : Process) (can : CanMakeResident (body_of g.S.FrameSeat.view c.args.space.now) t p c.args.access c.args.page).
    let found = c.in-Some.ensures.page t p (space_in_call can.agrees) in
    let none = still_moves can found.1.page (ap (get p.settled) (sym found.0) ∙ found.1.settled) (g.C.Files.files c.args.files.now) in
    subst (λ ms. g.C.Files.becomes c.args.files.now ms c.args.files.now) (sym none) (g.met.C.Files.stays c.args.files.now) in
    let taken = c.in_ok-take_over.ensures in
    record {
      served = made_ready _ _ _ _ _ r _ refl
          (carried (λ b s a n. HasMadeResident b (body_of g.S.FrameSeat.view c.take_over.new.space) (g.C.Files.files c.args.files.now) a n (λ f k. g.F.FrameAccess.alone → k ≡ g.F.FrameAccess.count s f)) body read.reads.same (sym is) page
          (taken.resident (g.C.Files.files c.args.files.now))) reads
          (λ alone. carried (λ b s a n. WhenMadeResident b a n (g.F.FrameAccess.count s) (λ need. need ≤ g.F.FrameAccess.free s)) body read.reads.same (sym is) page
          (λ u q sh ready by. (taken.exact alone u q sh ready by).0 refl))
          (λ alone. carried (λ b s a n. WhenMadeResident b a n (g.F.FrameAccess.count s) (λ need. g.F.FrameAccess.free c.take_over.new.store ≡ g.F.FrameAccess.free s - need)) body read.reads.same (sym is) page
          (taken.free alone))
          (record { root = taken.place.root ∙ read.reads.root; trapframe = taken.place.trapframe ∙ read.reads.trapframe; layout = taken.place.layout ∙ read.reads.layout }) (λ others rule. taken.keeps others (read.keeps others rule));
    }

-- ---- a settled page, for any other access

pub returns-else-eq : goal.returns-else-eq
returns-else-eq g c =
    let read = c.settled_page.ensures in
    let body = same_body g.S.FrameSeat.view c.settled_page.new.self c.args.space.now read.reads.view read.reads.root read.reads.trapframe read.reads.layout in
    let now = body_of g.S.FrameSeat.view c.args.space.now in
    let other = λ (is : c.args.access ≡ Store). false≢true (sym c.if-eq.false ∙ c.eq.ensures ∙ (rw is refl)) in
    let settled = λ (t : Tables) (p : Process) (can : CanMakeResident now t p c.args.access c.args.page).
    let found = c.in-Some.ensures.page t p (space_in_call can.agrees) in
    ap (get p.settled) (sym found.0) ∙ found.1.settled in
    let page = λ (t : Tables) (p : Process) (can : CanMakeResident now t p c.args.access c.args.page). (c.in-Some.ensures.page t p (space_in_call can.agrees)).1.page in
    record {
      served = made_ready _ _ _ _ _ c.requires.ready _ refl
          (λ t p can. (t, None, subst (λ b. MakesResident now.view b t t p (g.C.Files.files c.args.files.now) c.args.access c.args.page None) (sym body) (still_resides can (page t p can) (settled t p can) other _), λ f k on same. absurd (cc)))
          (λ t p can. subst (λ ms. g.C.Files.becomes c.args.files.now ms c.args.files.now) (sym (still_moves can (page t p can) (settled t p can) (g.C.Files.files c.args.files.now))) (g.met.C.Files.stays c.args.files.now))
          (λ alone t p shared can told. let none = still_need can (page t p can) (settled t p can) other shared in omega (arith, none))
          (λ alone t p shared can told. let none = still_need can (page t p can) (settled t p can) other shared in let same = ap g.F.FrameAccess.free read.reads.same in omega (arith, none, same))
          (record { root = read.reads.root; trapframe = read.reads.trapframe; layout = read.reads.layout }) read.keeps;
    }
