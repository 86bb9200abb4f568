-- What `make_all` picks: what its loop keeps.
use Rattle.std.proofs.Common.{◌≡◌, ◌+◌, ◌≤◌, false, length, true}
use Rattle.std.specs.Prelude.{vec_len}
use Rattle.std.specs.VecDeque.{deque_capacity}
use Rattle.shared_frames.specs.SeatsOfTable.{FitsIn, view_of}
use Rattle.run_roster.specs.StartEffects.{any_full, AreStartResults, slots_of}
use Rattle.run_roster.specs.StartFrames.{AreFramed, needs}
use Rattle.run_roster.specs.Slots.{count, HasRead, HasReadFull}
use Rattle.run_roster.specs.Starts.{Lends}
use Rattle.run_roster.proofs.start.StartContext.make_all.Given as goal

abbrev pub invariant-starts : goal.invariant-starts
invariant-starts g l = record {
  fits : FitsIn l.self.frames.now.table l.kernel;
  lends : Lends (view_of l.initial.kernel) (view_of l.kernel);
  reads : HasRead (view_of l.initial.kernel) (view_of l.kernel);
  full : any_full l.all.items ≡ true → (l.self.alone ≡ false) × HasReadFull (view_of l.initial.kernel) (view_of l.kernel);
  left : l.self.free ≤ l.left + needs l.starts (slots_of l.all.items);
  framed : AreFramed l.self.free l.starts (slots_of l.all.items) 0 l.all.items;
  made : AreStartResults l.self.frames.now.table l.slots l.starts 0 0 l.all.items;
  number : length l.all.items ≡ l.number;
  taken : l.taken ≡ count (slots_of l.all.items);
  few : l.taken ≤ l.number;
  rooms : vec_len l.rooms + l.number ≡ length l.starts;
  room : length l.starts ≤ deque_capacity l.all;
}
