use Rattle.frame_store.specs.Laws.{fits_after}
use Rattle.tests_of_processes.proofs.KernelSteps.{built_still}
use Rattle.tests_of_processes.proofs.kernel_table.first_wrong.Goals as goal

pub loop-row-init : goal.loop-row-init
loop-row-init g c = record { built = c.in_ok-kernel.ensures.built; keeps = c.in_ok-kernel.ensures.keeps }

pub translate-walk-requires-clause-fits : goal.translate-walk-requires-clause-fits
translate-walk-requires-clause-fits g c = fits_after g.F.FrameAccess.invariant c.loop-row.invariant.keeps c.requires.fits

pub translate-walk-requires-clause-built : goal.translate-walk-requires-clause-built
translate-walk-requires-clause-built g c = let built = c.loop-row.invariant.built in (64, 4, built.0, built.1, built.2)

pub returns-then-not-is_right-clause-keeps : goal.returns-then-not-is_right-clause-keeps
returns-then-not-is_right-clause-keeps g c = λ others r. c.translate-walk.ensures.keeps others (c.loop-row.invariant.keeps others r)

pub loop-row-preserved : goal.loop-row-preserved
loop-row-preserved g c =
    let walk = c.translate-walk.ensures in
    record {
      built = built_still _ _ _ _ _ _ 64 4 walk.view walk.root walk.scheme c.loop-row.invariant.built;
      keeps = λ others r. walk.keeps others (c.loop-row.invariant.keeps others r);
    }

pub returns-clause-keeps : goal.returns-clause-keeps
returns-clause-keeps g c = c.loop-row.invariant.keeps
