use Rattle.std.proofs.Common.{◌≡◌, length, take}
use Rattle.lent_memory.specs.Entries.{entries_of}
use Rattle.lent_memory.proofs.buffer.first_empty.Given as goal

-- each place so far has an entry
abbrev pub invariant-places : goal.invariant-places
invariant-places l = record { full : length (entries_of (take l.n l.places)) ≡ l.n }
