use Rattle.std.proofs.Common.{arith, refl, ap, ◌∙◌}
use Rattle.shared_frames.proofs.Moves as moves
use Rattle.shared_frames.proofs.Within as within
use Rattle.shared_frames.proofs.steps.try_share.Goals as goal

pub compare_exchange-requires : goal.compare_exchange-requires
compare_exchange-requires c = let place = (c.requires.fits.1 c.args.frame.0).0 c.requires.held in (c.requires.fits.0, omega (arith, place), moves.shares _ _ _ _ c.args.frame.0 _ c.requires.held c.requires.few)

pub returns-clause-view : goal.returns-clause-view
returns-clause-view c = ap (λ m. m.0) (c.compare_exchange.ensures.2.1 c.args.frame.0 refl)

pub returns-clause-fits : goal.returns-clause-fits
returns-clause-fits c =
    let e = c.compare_exchange.ensures in
    let p = within.told c.args.table.now.table_id.words _ c.args.seat.now.seat.me.0 _ _ ((e.2.1 c.args.frame.0 refl)) (within.within-exchanged c.args.table.now.table_id.words c.args.frame.0 c.args.seat.now.seat.me.0 c.requires.fits.1 c.requires.held c.args.old c.compare_exchange.result) (within.size-exchanged c.args.frame.0 c.args.old c.compare_exchange.result c.args.seat.now.seat.me.0) c.requires.fits.2 in
    (e.0 ∙ c.requires.fits.0, p.0, p.1)
