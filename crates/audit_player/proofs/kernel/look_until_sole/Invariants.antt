use Rattle.std.proofs.Common.{◌≡◌}
use Rattle.frame_store.specs.View.{IsHeld}
use Rattle.shared_frames.specs.SeatsOfTable.{FitsIn, view_of}
use Rattle.audit_player.specs.KernelFrames.{KeepsReferences}
use Rattle.audit_player.proofs.kernel.look_until_sole.Given as goal

abbrev pub invariant-looking : goal.invariant-looking
invariant-looking g l = record {
  goes_on : (goal.iterator-looking g).can_next l.iterator';
  ends : (goal.iterator-looking g).is_finite l.iterator';
  table : l.store ≡ l.fn.store;
  fits : FitsIn l.fn.store l.seat;
  held : IsHeld (view_of l.seat) 0;
  keeps : KeepsReferences 0 (view_of l.fn.seat) (view_of l.seat);
}
