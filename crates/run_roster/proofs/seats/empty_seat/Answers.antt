-- What the search left open of `empty_seat`.
use Rattle.std.proofs.Common.{refl}
use Rattle.run_roster.proofs.Lending.{empty_anchored, empty_bare, fits_both}
use Rattle.run_roster.proofs.seats.empty_seat.Goals as goal

pub split-requires-clause-right_anchored : goal.split-requires-clause-right_anchored
split-requires-clause-right_anchored g c = empty_anchored _

pub returns-clause-bare : goal.returns-clause-bare
returns-clause-bare g c = empty_bare _ _ c.split.ensures.right

pub returns-clause-fits_new : goal.returns-clause-fits_new
returns-clause-fits_new g c = (fits_both _ _ _ c.args.kernel.now c.split.new.seat c.split.result refl c.split.ensures.keeps c.requires.fits).1.1

pub returns-clause-fits : goal.returns-clause-fits
returns-clause-fits g c = (fits_both _ _ _ c.args.kernel.now c.split.new.seat c.split.result refl c.split.ensures.keeps c.requires.fits).1.0
