use Rattle.std.proofs.Common.{arith, refl, ap, ◌∙◌}
use Rattle.shared_frames.proofs.Moves as moves
use Rattle.shared_frames.proofs.Within as within
use Rattle.shared_frames.proofs.steps.try_claim.Goals as goal

pub compare_exchange-requires : goal.compare_exchange-requires
compare_exchange-requires c = (c.requires.fits.0, omega (arith, c.requires.sized.0, c.requires.inside), moves.claims _ _ _ _ c.args.frame.0 c.requires.inside c.requires.anchored c.requires.credit)

pub returns-clause-view : goal.returns-clause-view
returns-clause-view c = ap (λ m. m.0) (c.compare_exchange.ensures.2 c.args.frame.0 refl).0

pub returns-clause-fresh : goal.returns-clause-fresh
returns-clause-fresh c = (c.compare_exchange.ensures.2 c.args.frame.0 refl).1

pub returns-clause-fits : goal.returns-clause-fits
returns-clause-fits c =
    let e = c.compare_exchange.ensures in
    let p = within.told c.args.table.now.table_id.words _ c.args.seat.now.seat.me.0 _ _ ((e.2 c.args.frame.0 refl).0) (within.within-tried c.args.table.now.table_id.words c.args.frame.0 c.args.seat.now.seat.me.0 c.requires.fits.1 (omega (arith, c.requires.sized.0, c.requires.inside)) c.compare_exchange.result) (within.size-tried c.args.frame.0 c.compare_exchange.result c.args.seat.now.seat.me.0) c.requires.fits.2 in
    (e.0 ∙ c.requires.fits.0, p.0, p.1)

pub invariant_of-seat : goal.invariant_of-seat
invariant_of-seat c = record { no_slot = ap (λ m. m.1) (c.compare_exchange.ensures.2 c.args.frame.0 refl).0 ∙ c.args.seat.now.no_slot }
