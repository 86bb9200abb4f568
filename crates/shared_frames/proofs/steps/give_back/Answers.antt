use Rattle.std.proofs.Common.{arith, refl, ◌∙◌}
use Rattle.shared_frames.proofs.Moves as moves
use Rattle.shared_frames.proofs.Within as within
use Rattle.shared_frames.proofs.steps.give_back.Goals as goal

pub fetch_add-requires : goal.fetch_add-requires
fetch_add-requires c = (c.requires.fits.0, omega (arith, c.requires.sized.0), moves.gives_back _ _ _ _ _ c.requires.credits)

pub returns-clause-fits : goal.returns-clause-fits
returns-clause-fits c =
    let e = c.fetch_add.ensures in
    let p = within.told c.args.table.now.table_id.words _ c.args.seat.now.seat.me.0 _ _ (e.2) (within.within_same c.args.table.now.table_id.words c.args.seat.now.seat.me.0 _ refl c.requires.fits.1) refl c.requires.fits.2 in
    (e.0 ∙ c.requires.fits.0, p.0, p.1)
