-- What the search left open of `release_seat`.
use Rattle.std.proofs.Common.{refl}
use Rattle.shared_frames.specs.SeatsOfTable.{fits_still}
use Rattle.run_roster.proofs.Lending.{released_anchored, stripped_bare, stripped_tallies}
use Rattle.run_roster.proofs.seats.release_seat.Goals as goal

pub release-requires-clause-anchored : goal.release-requires-clause-anchored
release-requires-clause-anchored g c = released_anchored _ c.requires.seat

pub returns-clause-bare : goal.returns-clause-bare
returns-clause-bare g c = stripped_bare _ _ c.requires.seat c.release.ensures.view

pub returns-clause-fits : goal.returns-clause-fits
returns-clause-fits g c = (fits_still _ _ _ c.args.seat c.release.new.seat refl c.release.ensures.keeps c.requires.fits).1

pub returns-clause-store : goal.returns-clause-store
returns-clause-store g c = (fits_still _ _ _ c.args.seat c.release.new.seat refl c.release.ensures.keeps c.requires.fits).0

pub returns-clause-tallies : goal.returns-clause-tallies
returns-clause-tallies g c = stripped_tallies _ _ c.requires.seat c.release.ensures.view
