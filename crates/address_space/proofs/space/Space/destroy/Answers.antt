use Rattle.std.proofs.Common.{◌∙◌, refl, arith}
use Rattle.frame_store.specs.Laws.{fits_after}
use Rattle.address_space.specs.SpacesInCalls.{space_in_call}
use Rattle.address_space.proofs.EndingSteps.{anchored_first, anchored_last, code_held, is_bare, saved_held, takes_last}
use Rattle.address_space.proofs.space.Space.destroy.Goals as goal

pub strip-seat-requires-clause-ready : goal.strip-seat-requires-clause-ready
strip-seat-requires-clause-ready g c = let r = c.requires.ready in (r.0, r.1, space_in_call r.2)

pub release-requires-clause-fits : goal.release-requires-clause-fits
release-requires-clause-fits g c = fits_after g.F.FrameAccess.invariant c.strip-seat.ensures.keeps c.requires.fits

pub release-requires-clause-held : goal.release-requires-clause-held
release-requires-clause-held g c = rw c.strip-seat.ensures.trapframe (saved_held _ _ _ c.strip-seat.ensures.holds refl)

pub release-requires-clause-anchored : goal.release-requires-clause-anchored
release-requires-clause-anchored g c = rw c.strip-seat.ensures.trapframe (anchored_first _ _ _ c.strip-seat.ensures.holds refl)

pub release-requires-2-clause-fits : goal.release-requires-2-clause-fits
release-requires-2-clause-fits g c =
    fits_after g.F.FrameAccess.invariant c.release.ensures.keeps (fits_after g.F.FrameAccess.invariant c.strip-seat.ensures.keeps c.requires.fits)

pub release-requires-2-clause-held : goal.release-requires-2-clause-held
release-requires-2-clause-held g c = code_held _ _ _ c.strip-seat.ensures.holds (rw c.strip-seat.ensures.trapframe at c.release.ensures.view)

pub release-requires-2-clause-anchored : goal.release-requires-2-clause-anchored
release-requires-2-clause-anchored g c = anchored_last _ _ _ c.strip-seat.ensures.holds (rw c.strip-seat.ensures.trapframe at c.release.ensures.view) _ refl

pub returns-clause-bare : goal.returns-clause-bare
returns-clause-bare g c =
    let none = c.strip-seat.ensures.credits ∙ c.requires.ready.2.credits in
    is_bare _ _ _ c.strip-seat.ensures.holds (rw c.strip-seat.ensures.trapframe at c.release.ensures.view) _ c.release-2.ensures.view none

pub returns-clause-tallies : goal.returns-clause-tallies
returns-clause-tallies g c =
    takes_last _ _ _ c.strip-seat.ensures.holds (rw c.strip-seat.ensures.trapframe at c.release.ensures.view) _ c.release-2.ensures.view _ c.strip-seat.ensures.tallies

pub returns-clause-keeps : goal.returns-clause-keeps
returns-clause-keeps g c others r = c.release-2.ensures.keeps others (c.release.ensures.keeps others (c.strip-seat.ensures.keeps others r))

pub returns-clause-free : goal.returns-clause-free
returns-clause-free g c alone =
    let first = c.strip-seat.ensures.free alone in
    let second = c.release.ensures.free alone in
    let third = c.release-2.ensures.free alone in
    omega (arith, first, second, third)
