use Rattle.std.proofs.Common.{arith, ◌∙◌}
use Rattle.shared_frames.proofs.Moves as moves
use Rattle.shared_frames.proofs.Within as within
use Rattle.shared_frames.proofs.steps.try_reserve.Goals as goal

pub compare_exchange-requires : goal.compare_exchange-requires
compare_exchange-requires c = (c.requires.fits.0, omega (arith, c.requires.sized.0), moves.reserves _ _ _ _ _ _ c.requires.less)

pub returns-clause-fits : goal.returns-clause-fits
returns-clause-fits c =
    let e = c.compare_exchange.ensures in
    let p = within.told c.args.table.now.table_id.words _ c.args.seat.now.seat.me.0 _ _ (e.2) (within.within_same c.args.table.now.table_id.words c.args.seat.now.seat.me.0 _ (moves.reserved-frames c.args.old c.args.new c.compare_exchange.result c.args.seat.now.seat.me.0) c.requires.fits.1) (within.size-reserved c.args.old c.args.new c.compare_exchange.result c.args.seat.now.seat.me.0) c.requires.fits.2 in
    (e.0 ∙ c.requires.fits.0, p.0, p.1)
