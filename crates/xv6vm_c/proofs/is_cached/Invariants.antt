use Rattle.std.proofs.Common.{ℕ, ◌<◌}
use Rattle.lent_memory.specs.Entries.{entry_at}
use Rattle.xv6vm_c.specs.Answers.{Caches}
use Rattle.xv6vm_c.proofs.is_cached.Given as goal

-- no entry so far gives the outcome
abbrev pub invariant-entries : goal.invariant-entries
invariant-entries l = record { none : (k : ℕ) → k < l.n → Caches (entry_at l.entries k) l.va.0 l.asid l.access l.mode l.outcome → ⊥ }
