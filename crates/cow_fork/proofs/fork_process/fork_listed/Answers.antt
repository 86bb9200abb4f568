use Rattle.std.proofs.Common.{ap, inl, inr, Err, refl, subst, arith, sym, ◌∙◌}
use Rattle.address_space.specs.Agreement.{body, body_of}
use Rattle.frame_store.specs.Laws.{fits_after}
use Rattle.cow_fork.specs.Forks.{Forks}
use Rattle.cow_fork.proofs.Refusals.{all_held, can_divide, dry_whole, either_refusal, few_pages, going_once, runs_dry, same_error, space_anchored, whole_again, takes_counted}
use Rattle.cow_fork.proofs.Walking.{body_between}
use Rattle.cow_fork.proofs.fork_process.fork_listed.Goals as goal

pub fork_need-need-requires : goal.fork_need-need-requires
fork_need-need-requires g c =
    let r = c.requires.ready in
    let law = g.met.F.FrameAccess.within _ _ c.requires.fits.0 c.requires.fits.1 in
    record { few = few_pages _ r.0 r.1 r.2 _ (c.requires.settled r.0 r.1 r.2) (λ f held. let low = law.1 f held in omega (arith, low, law.0)) }

pub prepare-requires-clause-fits : goal.prepare-requires-clause-fits
prepare-requires-clause-fits g c = c.requires.fits

pub prepare-requires-clause-anchored : goal.prepare-requires-clause-anchored
prepare-requires-clause-anchored g c =
    let r = c.requires.ready in
    space_anchored _ r.0 r.1 r.2

pub prepare-requires-clause-once : goal.prepare-requires-clause-once
prepare-requires-clause-once g c =
    let r = c.requires.ready in
    going_once _ r.0 r.1 r.2 _ (c.requires.settled r.0 r.1 r.2)

pub prepare-requires-clause-held : goal.prepare-requires-clause-held
prepare-requires-clause-held g c =
    let r = c.requires.ready in
    all_held _ r.0 r.1 r.2 _ (c.requires.settled r.0 r.1 r.2)

pub prepare-requires-clause-few : goal.prepare-requires-clause-few
prepare-requires-clause-few g c =
    let r = c.requires.ready in
    let law = g.met.F.FrameAccess.within _ _ c.requires.fits.0 c.requires.fits.1 in
    few_pages _ r.0 r.1 r.2 _ (c.requires.settled r.0 r.1 r.2) (λ f held. let low = law.1 f held in omega (arith, low, law.0))

-- ---- a refusal

pub returns-in-Err-clause-whole : goal.returns-in-Err-clause-whole
returns-in-Err-clause-whole g c t p space =
    let now = body_between (g.S.FrameSeat.view c.prepare.new.space.seat) (g.S.FrameSeat.view c.prepare.new.space.seat) c.prepare.new.space c.args.space.now refl
    c.prepare.ensures.place.root c.prepare.ensures.place.trapframe c.prepare.ensures.place.layout in
    rw now (elim (either_refusal c.in-Err.refusal) [
      | inl none ↦ (let dry = c.in-Err.ensures.dry (ap (λ e. Err e) none) in whole_again _ _ (dry_whole _ _ _ dry) dry.credits _ _ _ t p space)
      | inr full ↦ (let back = c.in-Err.ensures.back (ap (λ e. Err e) full) in whole_again _ _ back.holds back.credits _ _ _ t p space)
    ])

pub returns-in-Err-clause-dry : goal.returns-in-Err-clause-dry
returns-in-Err-clause-dry g c is t p space =
    runs_dry _ _ _ _ _ refl (c.in-Err.ensures.dry (same_error _ _ is)) space.credits (c.fork_need-need.ensures.need t p (space.lays.scheme ∙ sym c.scheme-scheme.ensures) space.stands.shows.low (c.requires.settled t p space))

pub returns-in-Err-clause-full : goal.returns-in-Err-clause-full
returns-in-Err-clause-full g c is = takes_counted _ _ _ (c.in-Err.ensures.back (same_error _ _ is)).tallies

pub returns-in-Err-clause-short : goal.returns-in-Err-clause-short
returns-in-Err-clause-short g c alone t p space =
    let need = c.fork_need-need.ensures.need t p (space.lays.scheme ∙ sym c.scheme-scheme.ensures) space.stands.shows.low (c.requires.settled t p space) in
    let s = c.in-Err.ensures.short alone in
    (λ is. let less = s.0 (same_error _ _ is) in omega (arith, less, need), λ less. same_error _ _ (s.1 (omega (arith, less, need))))

pub returns-in-Err-clause-sharers : goal.returns-in-Err-clause-sharers
returns-in-Err-clause-sharers g c alone is =
    let r = c.requires.ready in
    let s = c.in-Err.ensures.sharers alone (same_error _ _ is) in
    (s.0, all_held _ r.0 r.1 r.2 _ (c.requires.settled r.0 r.1 r.2) s.0 s.1, s.2)

pub returns-in-Err-clause-free : goal.returns-in-Err-clause-free
returns-in-Err-clause-free g c alone t p space other =
    c.in-Err.ensures.free alone (λ is. other (same_error _ _ is))

pub returns-in-Err-clause-keeps_refused : goal.returns-in-Err-clause-keeps_refused
returns-in-Err-clause-keeps_refused g c others r = c.prepare.ensures.keeps others r

pub divide-requires-clause-fits : goal.divide-requires-clause-fits
divide-requires-clause-fits g c =
    fits_after g.F.FrameAccess.invariant c.prepare.ensures.keeps c.requires.fits

pub divide-requires-clause-ready : goal.divide-requires-clause-ready
divide-requires-clause-ready g c =
    let r = c.requires.ready in
    let p = c.prepare.ensures in (
      _,
      r.0,
      r.1,
      can_divide g.S.FrameSeat.view c.prepare.new.space c.args.space.now _ r.0 r.1 _ _ _ r.2 (c.requires.settled r.0 r.1 r.2)
          refl p.place.root p.place.trapframe p.place.layout (c.fork_need-need.ensures.need r.0 r.1 (r.2.lays.scheme ∙ sym c.scheme-scheme.ensures) r.2.stands.shows.low (c.requires.settled r.0 r.1 r.2)) c.in_default.ensures.prepared,
    )

pub returns-clause-forked : goal.returns-clause-forked
returns-clause-forked g c t p space =
    let e = c.prepare.ensures in
    let can = can_divide g.S.FrameSeat.view c.prepare.new.space c.args.space.now _ t p _ _ _ space (c.requires.settled t p space)
    refl e.place.root e.place.trapframe e.place.layout (c.fork_need-need.ensures.need t p (space.lays.scheme ∙ sym c.scheme-scheme.ensures) space.stands.shows.low (c.requires.settled t p space)) c.in_default.ensures.prepared in
    let all = c.divide.ensures.divided _ t p can in
    let before = body_between _ _ c.prepare.new.space c.args.space.now refl e.place.root e.place.trapframe e.place.layout in
    let child = c.divide.result in (
      all.0,
      all.1,
      subst (λ l. Forks (body_of g.S.FrameSeat.view c.args.space.now) (body_of g.S.FrameSeat.view c.divide.new.space) (body (g.S.FrameSeat.view child.seat) child.root.0 child.trapframe.0 l) t all.0 all.1 p) e.place.layout
          (subst (λ b. Forks b (body_of g.S.FrameSeat.view c.divide.new.space) (body (g.S.FrameSeat.view child.seat) child.root.0 child.trapframe.0 c.prepare.new.space.layout) t all.0 all.1 p) before all.2),
    )

pub returns-clause-short : goal.returns-clause-short
returns-clause-short g c alone t p space =
    let need = c.fork_need-need.ensures.need t p (space.lays.scheme ∙ sym c.scheme-scheme.ensures) space.stands.shows.low (c.requires.settled t p space) in
    let s = c.in_default.ensures.short alone in
    (λ is. absurd (cc), λ less. absurd (let bad = s.1 (omega (arith, less, need)) in cc))

pub returns-clause-free : goal.returns-clause-free
returns-clause-free g c alone t p space other =
    let need = c.fork_need-need.ensures.need t p (space.lays.scheme ∙ sym c.scheme-scheme.ensures) space.stands.shows.low (c.requires.settled t p space) in
    let first = c.in_default.ensures.free alone (λ is. absurd (cc)) in
    let last = c.divide.ensures.free alone in
    omega (arith, need, first, last)

pub returns-clause-keeps : goal.returns-clause-keeps
returns-clause-keeps g c others r =
    c.divide.ensures.keeps others (c.prepare.ensures.keeps others r)
