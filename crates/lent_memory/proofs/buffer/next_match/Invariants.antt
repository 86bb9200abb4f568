use Rattle.std.proofs.Common.{◌≡◌, ℕ, ◌≤◌, ◌<◌, false}
use Rattle.hart_tlb.specs.Entries.{is_match}
use Rattle.lent_memory.specs.Entries.{entry_at}
use Rattle.lent_memory.proofs.buffer.next_match.Given as goal

-- no place so far matches
abbrev pub invariant-places : goal.invariant-places
invariant-places l = record { first : (k : ℕ) → l.from ≤ k → k < l.n → is_match l.va.0 l.asid (entry_at l.places k) ≡ false }
