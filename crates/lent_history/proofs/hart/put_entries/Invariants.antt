use Rattle.std.proofs.Common.{◌≡◌, length, map, take}
use Rattle.lent_history.specs.Lent.{pmp_in}
use Rattle.lent_history.proofs.hart.put_entries.Given as goal

abbrev pub invariant-places : goal.invariant-places
invariant-places l = record { long : length l.places ≡ 64; each : map pmp_in (take l.n l.places) ≡ take l.n l.entries }
