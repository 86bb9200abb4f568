use Rattle.std.proofs.Common.{arith, refl, ap, ◌∙◌}
use Rattle.frame_store.specs.Holds.{size-released}
use Rattle.shared_frames.proofs.Moves as moves
use Rattle.shared_frames.proofs.Within as within
use Rattle.shared_frames.proofs.steps.drop_reference.Goals as goal

pub fetch_sub-requires : goal.fetch_sub-requires
fetch_sub-requires c = let place = (c.requires.fits.1 c.args.frame.0).0 c.requires.held in (c.requires.fits.0, omega (arith, place), moves.releases _ _ _ _ c.args.frame.0 c.requires.held c.requires.anchored)

pub returns-clause-view : goal.returns-clause-view
returns-clause-view c = ap (λ m. m.0) (c.fetch_sub.ensures.2 c.args.frame.0 refl)

pub returns-clause-fits : goal.returns-clause-fits
returns-clause-fits c =
    let e = c.fetch_sub.ensures in
    let p = within.told c.args.table.now.table_id.words _ c.args.seat.now.seat.me.0 _ _ ((e.2 c.args.frame.0 refl)) (within.within-let_go c.args.table.now.table_id.words c.args.frame.0 c.args.seat.now.seat.me.0 c.requires.fits.1 c.requires.held c.fetch_sub.result) (size-released c.args.frame.0 c.args.seat.now.seat.me.0) c.requires.fits.2 in
    (e.0 ∙ c.requires.fits.0, p.0, p.1)
