use Rattle.std.proofs.Common.{◌≡◌, ◌≤◌}
use Rattle.std.specs.Slots.{slots_items}
use Rattle.shared_frames.specs.Invariant.{zero_counts}
use Rattle.shared_frames.proofs.frames.count_free.Given as goal

abbrev pub invariant-loop-frame : goal.invariant-loop-frame
invariant-loop-frame l = (l.free ≤ l.frame) × (l.free ≡ zero_counts (slots_items l.closed.words) l.frame)
