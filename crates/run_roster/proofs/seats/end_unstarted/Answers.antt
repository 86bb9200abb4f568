-- What the search left open of `end_unstarted`.
use Rattle.std.proofs.Common.{refl}
use Rattle.shared_frames.specs.SeatsOfTable.{fits_still}
use Rattle.run_roster.proofs.seats.end_unstarted.Goals as goal

pub returns-clause-fits : goal.returns-clause-fits
returns-clause-fits g c = (fits_still _ _ _ c.args.space.seat c.destroy.result refl c.destroy.ensures.keeps c.requires.begun.0).1

pub returns-clause-store : goal.returns-clause-store
returns-clause-store g c = (fits_still _ _ _ c.args.space.seat c.destroy.result refl c.destroy.ensures.keeps c.requires.begun.0).0
