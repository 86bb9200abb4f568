use Rattle.std.proofs.Common.{◌≡◌, ◌-◌}
use Rattle.shared_frames.specs.SeatsOfTable.{FitsIn, view_of}
use Rattle.audit_player.specs.KernelFrames.{HoldsOnce}
use Rattle.audit_player.proofs.kernel.take_kernel_frames.Given as goal

abbrev pub invariant-taking : goal.invariant-taking
invariant-taking g l = record {
  table : l.store ≡ l.fn.frames.table;
  fits : FitsIn l.fn.frames.table l.seat;
  holds : HoldsOnce l.counter (l.count - l.counter) (view_of l.seat);
}
