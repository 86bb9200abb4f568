use Rattle.std.proofs.Common.{◌≡◌, ◌<◌}
use Rattle.shared_frames.proofs.retry.share.Given as goal

abbrev pub invariant-loop : goal.invariant-loop
invariant-loop g l = (l.expected < 65535) × (l.seat.seat.table_id ≡ l.initial.seat.seat.table_id) × (l.seat.seat.me.0 ≡ l.initial.seat.seat.me.0)
