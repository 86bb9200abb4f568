-- What the search left open of `opened`.
use Rattle.run_roster.proofs.Lending.{opens_fits, opens_fresh, opens_lends, opens_looks, opens_seat, opens_store}
use Rattle.run_roster.proofs.seats.opened.Goals as goal

pub returns-clause-opened : goal.returns-clause-opened
returns-clause-opened g c = let e = c.opened_seat.ensures in opens_seat _ _ c.args.kernel.now c.opened_seat.new.seat c.requires.fits c.opened_seat.result (e.opener, e.opened, e.full, e.keeps, e.keeps_full)

pub returns-clause-fresh : goal.returns-clause-fresh
returns-clause-fresh g c = let e = c.opened_seat.ensures in opens_fresh _ _ c.args.kernel.now c.opened_seat.new.seat c.requires.fits c.opened_seat.result (e.opener, e.opened, e.full, e.keeps, e.keeps_full)

pub returns-clause-lends : goal.returns-clause-lends
returns-clause-lends g c = let e = c.opened_seat.ensures in opens_lends _ _ c.args.kernel.now c.opened_seat.new.seat c.requires.fits c.opened_seat.result (e.opener, e.opened, e.full, e.keeps, e.keeps_full)

pub returns-clause-store : goal.returns-clause-store
returns-clause-store g c = let e = c.opened_seat.ensures in opens_store _ _ c.args.kernel.now c.opened_seat.new.seat c.requires.fits c.opened_seat.result (e.opener, e.opened, e.full, e.keeps, e.keeps_full)

pub returns-clause-fits : goal.returns-clause-fits
returns-clause-fits g c = let e = c.opened_seat.ensures in opens_fits _ _ c.args.kernel.now c.opened_seat.new.seat c.requires.fits c.opened_seat.result (e.opener, e.opened, e.full, e.keeps, e.keeps_full)

pub returns-clause-looks : goal.returns-clause-looks
returns-clause-looks g c = let e = c.opened_seat.ensures in opens_looks _ _ c.args.kernel.now c.opened_seat.new.seat c.requires.fits c.opened_seat.result (e.opener, e.opened, e.full, e.keeps, e.keeps_full)
