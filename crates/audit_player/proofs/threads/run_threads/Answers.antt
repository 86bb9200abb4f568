use Rattle.std.proofs.Common.{◌-◌, inr, refl}
use Rattle.audit_player.specs.ThreadText.{threads_text}
use Rattle.audit_player.proofs.ClosedPools.{is_text, users_are}
use Rattle.audit_player.proofs.threads.run_threads.Goals as goal

pub returns-then-write_text-clause-plays : goal.returns-then-write_text-clause-plays
returns-then-write_text-clause-plays g c =
    let s = c.args.script.now in
    let frames = c.pool-pool.result.frames - c.kernel_frames.result in (
      threads_text c.as_slice-3.result.now c.in-Ok-run_pool.free frames,
      is_text s c.in-Ok-lend_lists.lists.items c.as_slice.result.now c.in-Ok-lend_starts.starts.items c.as_slice-2.result.now c.in-Ok-run_pool.ended.items c.sort_by_name.new.all.items c.as_slice-3.result.now c.in-Ok-run_pool.free frames c.in-Ok-lend_lists.ensures.are c.as_slice.ensures.value c.in-Ok-lend_starts.ensures.are c.as_slice-2.ensures.value c.in-Ok-run_pool.ensures.ended c.in-Ok-run_pool.ensures.refusals c.sort_by_name.ensures.same
          c.sort_by_name.ensures.order c.as_slice-3.ensures.value c.in-Ok-run_pool.ensures.free (users_are s.pool c.pool-pool.result c.kernel_frames.result c.pool-pool.ensures c.kernel_frames.ensures),
      c.if-write_text.ensures.whole refl,
    )

pub returns-clause-plays : goal.returns-clause-plays
returns-clause-plays g c =
    let s = c.args.script.now in
    let frames = c.pool-pool.result.frames - c.kernel_frames.result in
    inr (
      threads_text c.as_slice-3.result.now c.in-Ok-run_pool.free frames,
      is_text s c.in-Ok-lend_lists.lists.items c.as_slice.result.now c.in-Ok-lend_starts.starts.items c.as_slice-2.result.now c.in-Ok-run_pool.ended.items c.sort_by_name.new.all.items c.as_slice-3.result.now c.in-Ok-run_pool.free frames c.in-Ok-lend_lists.ensures.are c.as_slice.ensures.value c.in-Ok-lend_starts.ensures.are c.as_slice-2.ensures.value c.in-Ok-run_pool.ensures.ended c.in-Ok-run_pool.ensures.refusals c.sort_by_name.ensures.same
          c.sort_by_name.ensures.order c.as_slice-3.ensures.value c.in-Ok-run_pool.ensures.free (users_are s.pool c.pool-pool.result c.kernel_frames.result c.pool-pool.ensures c.kernel_frames.ensures),
      c.write_text.ensures.part,
    )
