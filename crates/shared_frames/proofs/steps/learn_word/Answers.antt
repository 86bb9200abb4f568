use Rattle.std.proofs.Common.{arith, refl, ap, ◌∙◌}
use Rattle.shared_frames.proofs.Moves as moves
use Rattle.shared_frames.proofs.Within as within
use Rattle.shared_frames.proofs.steps.learn_word.Goals as goal

pub load-requires : goal.load-requires
load-requires c = let place = (c.requires.fits.1 c.args.frame.0).0 ((c.requires.fits.1 c.args.frame.0).1 c.requires.sole) in (c.requires.fits.0, omega (arith, place, c.requires.in_page), moves.learns _ _ _ _ c.args.frame.0 c.args.index c.requires.in_page c.requires.sole)

pub returns-clause-view : goal.returns-clause-view
returns-clause-view c = ap (λ m. m.0) (c.load.ensures.2 c.args.frame.0 c.args.index c.requires.in_page refl)

pub returns-clause-fits : goal.returns-clause-fits
returns-clause-fits c =
    let e = c.load.ensures in
    let p = within.told c.args.table.now.table_id.words _ c.args.seat.now.seat.me.0 _ _ ((e.2 c.args.frame.0 c.args.index c.requires.in_page refl)) (within.within-stored c.args.table.now.table_id.words c.args.frame.0 c.args.seat.now.seat.me.0 c.requires.fits.1 c.args.index c.load.result) refl c.requires.fits.2 in
    (e.0 ∙ c.requires.fits.0, p.0, p.1)

pub invariant_of-seat : goal.invariant_of-seat
invariant_of-seat c = record { no_slot = ap (λ m. m.1) (c.load.ensures.2 c.args.frame.0 c.args.index c.requires.in_page refl) ∙ c.args.seat.now.no_slot }
