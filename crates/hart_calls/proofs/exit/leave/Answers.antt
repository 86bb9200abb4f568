use Rattle.hart_calls.proofs.exit.leave.Goals as goal

pub destroy-requires-clause-fits : goal.destroy-requires-clause-fits
destroy-requires-clause-fits g c = rw c.into_inner.ensures c.requires.fits

pub destroy-requires-clause-ready : goal.destroy-requires-clause-ready
destroy-requires-clause-ready g c = rw c.into_inner.ensures c.requires.ready
