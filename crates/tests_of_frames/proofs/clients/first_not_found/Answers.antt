use Rattle.std.proofs.Common.{refl, sym, subst}
use Rattle.frame_store.specs.Laws.{fits_after}
use Rattle.frame_store.specs.View.{IsHeld}
use Rattle.frame_clients.specs.FilledFrames.{filled_holds}
use Rattle.tests_of_frames.proofs.clients.first_not_found.Goals as goal

pub cases-init : goal.cases-init
cases-init g c = record {
  view = refl;
  keeps = c.in_ok-frame.ensures.keeps;
  held = subst (λ v. IsHeld v c.in_ok-frame.frame.0) (sym c.in_ok-frame.ensures.ok) (filled_holds _ _ _);
}

pub next_word-requires-clause-fits : goal.next_word-requires-clause-fits
next_word-requires-clause-fits g c = fits_after g.F.FrameAccess.invariant c.cases.invariant.keeps c.requires.fits

pub next_word-requires-clause-held : goal.next_word-requires-clause-held
next_word-requires-clause-held g c = c.cases.invariant.held

pub next_busy_word-requires-clause-fits : goal.next_busy_word-requires-clause-fits
next_busy_word-requires-clause-fits g c = fits_after g.F.FrameAccess.invariant c.next_word.ensures.keeps (fits_after g.F.FrameAccess.invariant c.cases.invariant.keeps c.requires.fits)

pub next_busy_word-requires-clause-held : goal.next_busy_word-requires-clause-held
next_busy_word-requires-clause-held g c = subst (λ v. IsHeld v c.in_ok-frame.frame.0) (sym c.next_word.ensures.view) c.cases.invariant.held
