use Rattle.shared_frames.specs.SeatsOfTable.{fits_still, may_step}
use Rattle.tests_of_processes.proofs.Opening.{opens}
use Rattle.tests_of_processes.proofs.kernel_table.over_shared.Goals.{in-Ok, in-Err}
use Rattle.tests_of_processes.proofs.kernel_table.over_shared.Goals as goal

pub first_wrong-requires-clause-fits : goal.first_wrong-requires-clause-fits
first_wrong-requires-clause-fits g c = may_step _ _ c.in_ok-frames.seat c.supply-supply.ensures c.in_ok-frames.ensures.fits

pub first_wrong-requires-clause-opening : goal.first_wrong-requires-clause-opening
first_wrong-requires-clause-opening g c = opens _ c.in_ok-frames.ensures.view

pub close-requires : goal.close-requires
close-requires g c =
    let before = c.in_ok-frames.ensures.fits in
    elim c.match-first_wrong.branch [
      | in-Ok w ↦ rw w.wrong-is (fits_still _ _ _ c.in_ok-frames.seat w.in-Ok.seat c.supply-supply.ensures w.in-Ok.ensures.keeps before).1
      | in-Err w ↦ rw w.wrong-is (fits_still _ _ _ c.in_ok-frames.seat w.in-Err.seat c.supply-supply.ensures w.in-Err.ensures.keeps_dry before).1
    ]
