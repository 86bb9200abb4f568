use Rattle.std.proofs.Common.{◌≡◌, ◌≤◌}
use Rattle.frame_store.specs.View.{with_credits}
use Rattle.shared_frames.specs.SeatsOfTable.{FitsIn}
use Rattle.shared_frames.proofs.retry.reserve.Given as goal

abbrev pub invariant-loop : goal.invariant-loop
invariant-loop g l = (l.got ≤ l.count) × FitsIn l.table.table_id l.seat × (l.seat.seat.me.0 ≡ with_credits l.got l.initial.seat.seat.me.0)
