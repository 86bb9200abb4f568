use Rattle.frame_store.specs.Laws.{fits_after}
use Rattle.tests_of_refusals.proofs.initial_process.reserved_all.Goals as goal

pub reserve-requires : goal.reserve-requires
reserve-requires g c = record { fits = fits_after g.F.FrameAccess.invariant c.frames.invariant c.requires.fits }
