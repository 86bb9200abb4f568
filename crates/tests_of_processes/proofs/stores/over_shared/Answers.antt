use Rattle.shared_frames.specs.SeatsOfTable.{fits_still, may_step}
use Rattle.tests_of_processes.proofs.Opening.{opens}
use Rattle.tests_of_processes.proofs.stores.over_shared.Goals.{in-Ok, in-Err}
use Rattle.tests_of_processes.proofs.stores.over_shared.Goals as goal

pub lived-requires-clause-fits : goal.lived-requires-clause-fits
lived-requires-clause-fits g c = may_step _ _ c.in_ok-frames.seat c.supply-supply.ensures c.in_ok-frames.ensures.fits

pub lived-requires-clause-opening : goal.lived-requires-clause-opening
lived-requires-clause-opening g c = opens _ c.in_ok-frames.ensures.view

pub close-requires : goal.close-requires
close-requires g c =
    let before = c.in_ok-frames.ensures.fits in
    elim c.match-lived.branch [
      | in-Ok w ↦ rw w.wrong-is (fits_still _ _ _ c.in_ok-frames.seat w.in-Ok.seat c.supply-supply.ensures w.in-Ok.ensures.keeps before).1
      | in-Err w ↦ rw w.wrong-is (fits_still _ _ _ c.in_ok-frames.seat w.in-Err.seat c.supply-supply.ensures w.in-Err.ensures.keeps_refused before).1
    ]
