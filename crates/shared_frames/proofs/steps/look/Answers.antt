use Rattle.std.proofs.Common.{arith, refl, ap, ◌∙◌}
use Rattle.shared_frames.proofs.Moves as moves
use Rattle.shared_frames.proofs.Within as within
use Rattle.shared_frames.proofs.steps.look.Goals as goal

pub load-requires : goal.load-requires
load-requires c = let place = (c.requires.fits.1 c.args.frame.0).0 c.requires.held in (c.requires.fits.0, omega (arith, place), moves.looks _ _ _ _ c.args.frame.0 c.requires.held)

pub returns-clause-view : goal.returns-clause-view
returns-clause-view c = ap (λ m. m.0) (c.load.ensures.2.1 c.args.frame.0 refl)

pub returns-clause-some : goal.returns-clause-some
returns-clause-some c = c.load.ensures.2.2

pub returns-clause-fits : goal.returns-clause-fits
returns-clause-fits c =
    let e = c.load.ensures in
    let p = within.told c.args.table.now.table_id.words _ c.args.seat.now.seat.me.0 _ _ ((e.2.1 c.args.frame.0 refl)) (within.within-looked c.args.table.now.table_id.words c.args.frame.0 c.args.seat.now.seat.me.0 c.requires.fits.1 c.requires.held c.load.result) refl c.requires.fits.2 in
    (e.0 ∙ c.requires.fits.0, p.0, p.1)
