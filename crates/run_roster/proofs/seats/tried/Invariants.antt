-- What `tried` picks: what its loop keeps.
use Rattle.std.proofs.Common.{◌≡◌}
use Rattle.frame_store.specs.View.{IsHeld}
use Rattle.shared_frames.specs.SeatsOfTable.{FitsIn, view_of}
use Rattle.run_roster.specs.Slots.{HasRead}
use Rattle.run_roster.specs.Starts.{Lends}
use Rattle.run_roster.proofs.seats.tried.Given as goal

abbrev pub invariant-tries : goal.invariant-tries
invariant-tries g l = record {
  goes_on : (goal.iterator-tries g).can_next l.iterator';
  ends : (goal.iterator-tries g).is_finite l.iterator';
  store : l.store ≡ l.fn.store;
  fits : FitsIn l.store l.kernel;
  held : IsHeld (view_of l.kernel) 0;
  lends : Lends (view_of l.fn.kernel) (view_of l.kernel);
  reads : HasRead (view_of l.fn.kernel) (view_of l.kernel);
}
