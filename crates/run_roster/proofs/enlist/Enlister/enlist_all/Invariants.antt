-- What `enlist_all` picks: what its loop keeps.
use Rattle.std.proofs.Common.{◌≡◌, ◌+◌, ◌++◌, Bool, List, length, take, true}
use Rattle.run_roster.specs.StartEffects.{any_full, AreStartResults, slots_of}
use Rattle.run_roster.specs.Slots.{count}
use Rattle.run_roster.specs.StartFrames.{AreFramed}
use Rattle.run_roster.proofs.enlist.Enlister.enlist_all.Given as goal

abbrev pub invariant-starts : goal.invariant-starts
invariant-starts g l = record {
  left : l.roster.left + l.number ≡ length l.starts;
  slots : l.roster.slots ≡ g.F.StartOutcomes.slots;
  out : l.roster.out ≡ count (take l.number g.F.StartOutcomes.taken);
  rest : length l.all.items + l.number ≡ length l.starts;
  framed : AreFramed g.F.StartOutcomes.free l.starts g.F.StartOutcomes.taken l.number l.all.items;
  full : any_full l.all.items ≡ true → g.F.StartOutcomes.full ≡ true;
  made : (before : List Bool) × (g.F.StartOutcomes.taken ≡ before ++ slots_of l.all.items) × (length before ≡ l.number) × AreStartResults g.B.RunBrand.table g.F.StartOutcomes.slots l.starts l.number (count before) l.all.items;
}
