use Rattle.std.proofs.Common.{arith, refl, ◌∙◌}
use Rattle.shared_frames.proofs.Parts.{joins, within-joined}
use Rattle.shared_frames.proofs.Within.{told}
use Rattle.shared_frames.proofs.split_join.join.Goals as goal

pub join_seat-requires : goal.join_seat-requires
join_seat-requires c = (c.requires.fits.0.0, c.requires.fits.1.0, c.args.other.no_slot, omega (arith, c.requires.sized.0), joins _ _ _ _ _)

pub returns-clause-fits : goal.returns-clause-fits
returns-clause-fits c =
    let e = c.join_seat.ensures in
    let p = told c.args.table.now.table_id.words _ c.args.seat.now.seat.me.0 _ _ e.2 (within-joined c.args.table.now.table_id.words c.args.seat.now.seat.me.0 c.args.other.seat.me.0 c.requires.fits.0.1 c.requires.fits.1.1) refl c.requires.fits.0.2 in
    (e.0 ∙ c.requires.fits.0.0, p.0, p.1)
