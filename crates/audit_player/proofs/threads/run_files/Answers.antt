use Rattle.std.proofs.Common.{List, arith, refl, subst}
use Rattle.audit_player.proofs.ClosedPools.{pool_closed, pool_starts}
use Rattle.run_roster.specs.RosterState.{ComesBack}
use Rattle.process_model.specs.Files.{File}
use Rattle.audit_player.proofs.threads.run_files.Goals as goal

pub reserve_user_frames-requires-clause-anchored : goal.reserve_user_frames-requires-clause-anchored
reserve_user_frames-requires-clause-anchored g c = omega (arith, c.run_harts_alone.ensures.lends.trampoline, c.take_kernel_frames.ensures.holds.trampoline)

pub returns-clause-free : goal.returns-clause-free
returns-clause-free g c =
    pool_closed c.args.script.now.pool c.pool-pool.result c.in_ok-frames.frames.table c.in_ok-frames.seat c.take_kernel_frames.new.seat c.run_harts_alone.new.kernel c.reserve_user_frames.new.seat c.in_ok-frames.frames.frames c.kernel_frames-kernel.result c.close-totals.result.free
    c.close-totals.result.trampoline c.pool-pool.ensures c.in_ok-frames.ensures.frames c.kernel_frames-kernel.ensures c.in_ok-frames.ensures.view c.in_ok-frames.ensures.fits c.take_kernel_frames.ensures.fits c.take_kernel_frames.ensures.holds c.run_harts_alone.ensures.lends c.reserve_user_frames.ensures.keeps
    c.reserve_user_frames.ensures.sole c.close-totals.ensures.last

pub returns-clause-refusals : goal.returns-clause-refusals
returns-clause-refusals g c = pool_starts c.args.script.now.pool c.pool-pool.result c.kernel_frames-kernel.result _ c.args.starts.now c.in_ok-ended.ended.items c.pool-pool.ensures c.kernel_frames-kernel.ensures refl c.in_ok-ended.ensures.starts

pub returns-clause-ended : goal.returns-clause-ended
returns-clause-ended g c = (
  c.in_ok-frames.frames.table,
  subst (λ (fs : List File). ComesBack c.in_ok-frames.frames.table fs c.args.lists.now c.args.starts.now c.in_ok-ended.ended.items) c.requires.of_files c.in_ok-ended.ensures.back,
)
