use Rattle.std.proofs.Common.{refl}
use Rattle.hart_calls.proofs.Beside.{empty_anchored, empty_bare, fits_both}
use Rattle.hart_calls.proofs.fork.split_empty_seat.Goals as goal

pub split-requires-clause-right_anchored : goal.split-requires-clause-right_anchored
split-requires-clause-right_anchored g c = empty_anchored _

pub returns-clause-bare : goal.returns-clause-bare
returns-clause-bare g c = empty_bare _ _ c.split.ensures.right

pub returns-clause-fits : goal.returns-clause-fits
returns-clause-fits g c = (fits_both _ _ _ c.args.space.now.seat c.split.new.seat c.split.result refl c.split.ensures.keeps c.requires.fits).1.0

pub returns-clause-store : goal.returns-clause-store
returns-clause-store g c = (fits_both _ _ _ c.args.space.now.seat c.split.new.seat c.split.result refl c.split.ensures.keeps c.requires.fits).0
