use Rattle.std.proofs.Common.{arith, refl, ◌∙◌}
use Rattle.shared_frames.proofs.Moves as moves
use Rattle.shared_frames.proofs.Within as within
use Rattle.shared_frames.proofs.steps.load_word.Goals as goal

pub load-requires : goal.load-requires
load-requires c = let place = (c.requires.fits.1 c.args.frame.0).0 c.requires.held in (c.requires.fits.0, omega (arith, place, c.requires.in_page), moves.loads _ _ _ _ _)

pub returns-clause-known : goal.returns-clause-known
returns-clause-known c = λ w e. c.load.ensures.2.1 c.args.frame.0 c.args.index w refl e

pub returns-clause-fits : goal.returns-clause-fits
returns-clause-fits c =
    let e = c.load.ensures in
    let p = within.told c.args.table.now.table_id.words _ c.args.seat.now.seat.me.0 _ _ (e.2.0) (c.requires.fits.1) refl c.requires.fits.2 in
    (e.0 ∙ c.requires.fits.0, p.0, p.1)
