use Rattle.std.proofs.Common.{◌≡◌, length, map, take}
use Rattle.lent_history.specs.Lent.{pmp_in}
use Rattle.lent_history.proofs.hart.entries_in.Given as goal

abbrev pub invariant-places : goal.invariant-places
invariant-places l = record { long : length l.entries ≡ 64; each : take l.n l.entries ≡ map pmp_in (take l.n l.places) }
