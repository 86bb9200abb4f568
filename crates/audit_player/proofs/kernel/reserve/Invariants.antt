use Rattle.std.proofs.Common.{◌≡◌}
use Rattle.shared_frames.specs.SeatsOfTable.{FitsIn, view_of}
use Rattle.audit_player.specs.KernelFrames.{GainsCredits}
use Rattle.audit_player.proofs.kernel.reserve.Given as goal

abbrev pub invariant-trying : goal.invariant-trying
invariant-trying g l = record {
  goes_on : (goal.iterator-trying g).can_next l.iterator';
  ends : (goal.iterator-trying g).is_finite l.iterator';
  table : l.store ≡ l.fn.store;
  fits : FitsIn l.fn.store l.seat;
  gains : GainsCredits 0 (view_of l.fn.seat) (view_of l.seat);
}
