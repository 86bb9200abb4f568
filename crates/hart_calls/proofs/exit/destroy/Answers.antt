use Rattle.shared_frames.specs.SeatsOfTable.{fits_still, may_step}
use Rattle.hart_calls.proofs.exit.destroy.Goals as goal

pub destroy-requires-clause-fits : goal.destroy-requires-clause-fits
destroy-requires-clause-fits g c = may_step _ _ c.args.space.seat c.requires.store c.requires.fits

pub returns-clause-fits : goal.returns-clause-fits
returns-clause-fits g c = (fits_still _ _ _ c.args.space.seat c.destroy.result c.requires.store c.destroy.ensures.keeps c.requires.fits).1

pub returns-clause-store : goal.returns-clause-store
returns-clause-store g c = (fits_still _ _ _ c.args.space.seat c.destroy.result c.requires.store c.destroy.ensures.keeps c.requires.fits).0
