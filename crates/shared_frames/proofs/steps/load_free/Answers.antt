use Rattle.std.proofs.Common.{arith, ◌∙◌}
use Rattle.shared_frames.proofs.Moves as moves
use Rattle.shared_frames.proofs.Within as within
use Rattle.shared_frames.proofs.steps.load_free.Goals as goal

pub load-requires : goal.load-requires
load-requires c = (c.requires.fits.0, omega (arith, c.requires.sized.0), moves.sees _ _ _ _)

pub returns-clause-fits : goal.returns-clause-fits
returns-clause-fits c =
    let e = c.load.ensures in
    let p = within.told c.args.table.now.table_id.words _ c.args.seat.now.seat.me.0 _ _ (e.2) (within.within_same c.args.table.now.table_id.words c.args.seat.now.seat.me.0 _ (moves.saw_free-frames c.load.result c.args.seat.now.seat.me.0) c.requires.fits.1) (within.size-saw_free c.load.result c.args.seat.now.seat.me.0) c.requires.fits.2 in
    (e.0 ∙ c.requires.fits.0, p.0, p.1)
