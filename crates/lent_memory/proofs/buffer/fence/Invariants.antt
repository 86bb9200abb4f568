use Rattle.std.proofs.Common.{◌≡◌, ℕ, ◌<◌, ◌≤◌, length}
use Rattle.lent_memory.specs.Entries.{entry_at, unfenced}
use Rattle.lent_memory.proofs.buffer.fence.Given as goal

-- the places so far were fenced, and the others are as they were
abbrev pub invariant-places : goal.invariant-places
invariant-places l = record {
  len : length l.places ≡ length l.fn.places;
  done : (k : ℕ) → k < l.n → entry_at l.places k ≡ unfenced l.va l.asid (entry_at l.fn.places k);
  rest : (k : ℕ) → l.n ≤ k → entry_at l.places k ≡ entry_at l.fn.places k;
}
