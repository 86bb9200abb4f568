use Rattle.std.proofs.Common.{sym, subst}
use Rattle.frame_store.specs.View.{IsHeld}
use Rattle.frame_store.specs.SeatOpening.{opened_held}
use Rattle.frame_store.specs.SeatJoin.{joined_first}
use Rattle.tests_of_frames.proofs.ClientSteps.{second_fits, second_steps}
use Rattle.tests_of_frames.proofs.clients.word_through_a_new_seat.Goals as goal

pub filled_word-word-requires-clause-fits : goal.filled_word-word-requires-clause-fits
filled_word-word-requires-clause-fits g c = second_fits g.F.FrameAccess.invariant (g.met.F.FrameAccess.comes_front _) c.in_ok-opened.ensures.keeps c.requires.fits

pub filled_word-word-requires-clause-anchored : goal.filled_word-word-requires-clause-anchored
filled_word-word-requires-clause-anchored g c = subst (λ v. IsHeld v 0) (sym c.in_ok-opened.ensures.opened) (opened_held _)

pub join-requires : goal.join-requires
join-requires g c = record {
  fits = (c.requires.fits.0, second_steps g.F.FrameAccess.invariant (g.met.F.FrameAccess.comes_front _) c.in_ok-opened.ensures.keeps (g.met.F.FrameAccess.goes_back _) c.filled_word-word.ensures.keeps _ c.requires.fits.1);
}

pub returns-clause-anchored : goal.returns-clause-anchored
returns-clause-anchored g c = subst (λ v. IsHeld v 0) (sym c.join.ensures.view) (joined_first _ _ 0 c.opened_seat.ensures.anchored)

pub returns-clause-keeps : goal.returns-clause-keeps
returns-clause-keeps g c = λ others r. c.join.ensures.keeps others
    (second_steps g.F.FrameAccess.invariant (g.met.F.FrameAccess.comes_front _) c.in_ok-opened.ensures.keeps (g.met.F.FrameAccess.goes_back _) c.filled_word-word.ensures.keeps others r)
