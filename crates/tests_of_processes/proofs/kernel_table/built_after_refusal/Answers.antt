use Rattle.std.proofs.Common.{[]}
use Rattle.address_space.specs.Trampolines.{dry_holds}
use Rattle.tests_of_processes.proofs.Opening.{opens}
use Rattle.tests_of_processes.proofs.kernel_table.built_after_refusal.Goals as goal

pub build-requires-2-clause-fits : goal.build-requires-2-clause-fits
build-requires-2-clause-fits c = ([], c.in-Err.ensures.keeps_dry [] c.in_ok-store.ensures.invariant)

pub build-requires-2-clause-opening : goal.build-requires-2-clause-opening
build-requires-2-clause-opening c = dry_holds _ _ _ c.in-Err.ensures.dry (opens _ c.in_ok-store.ensures.seat)
