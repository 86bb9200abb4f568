use Rattle.std.proofs.Common.{◌≡◌, ◌*◌, ◌≤◌, take}
use Rattle.std.specs.Prelude.{sum}
use Rattle.frame_store.proofs.plain.total.Given as goal

abbrev pub invariant-loop-count : goal.invariant-loop-count
invariant-loop-count l = record {
  summed : l.total ≡ sum (take l.count-index l.counts);
  small : l.total ≤ l.count-index * 65535;
}
