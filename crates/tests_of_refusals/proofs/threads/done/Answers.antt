use Rattle.shared_frames.specs.SeatsOfTable.{fits_still, may_step}
use Rattle.tests_of_refusals.proofs.threads.done.Goals as goal

pub numbers-init : goal.numbers-init
numbers-init g c = record { same = c.supply-store.ensures; fits = c.requires.ready.0; alive = c.requires.ready.1 }

pub keep-requires-clause-fits : goal.keep-requires-clause-fits
keep-requires-clause-fits g c = may_step _ _ c.numbers.space.seat c.numbers.invariant.same c.numbers.invariant.fits

pub keep-requires-clause-alive : goal.keep-requires-clause-alive
keep-requires-clause-alive g c = c.numbers.invariant.alive

pub numbers-preserved : goal.numbers-preserved
numbers-preserved g c =
    let still = fits_still _ _ _ c.numbers.space.seat c.keep.new.space.seat c.numbers.invariant.same c.keep.ensures.keeps c.numbers.invariant.fits in
    record { same = still.0; fits = still.1; alive = c.keep.ensures.alive }

pub destroy-requires-clause-fits : goal.destroy-requires-clause-fits
destroy-requires-clause-fits g c = may_step _ _ c.numbers.space.seat c.numbers.invariant.same c.numbers.invariant.fits

pub destroy-requires-clause-ready : goal.destroy-requires-clause-ready
destroy-requires-clause-ready g c = c.numbers.invariant.alive

pub returns : goal.returns
returns g c = (fits_still _ _ _ c.numbers.space.seat c.destroy.result c.numbers.invariant.same c.destroy.ensures.keeps c.numbers.invariant.fits).1
