-- A TLB as the list of its entries, the oldest first: what a fill does to it (`Fills`: the walk's outcome is added last, a
-- full one loses its oldest), and the numbers of the entries that may serve an access (`matching_numbers`).
use Rattle.std.specs.Prelude.{◌≡◌, ◌⊎◌, ℕ, ◌-◌, List, [], ◌∷◌, ◌++◌, drop, filter, length, slice_get}
use Rattle.std.specs.List.{range_with_len}
use Rattle.sv39_entry.specs.declared.scheme.Scheme.{Scheme}
use Rattle.table_walk.specs.Memory.{Extent, Memory}
use Rattle.hart_tlb.specs.Entries.{is_match}
use Rattle.hart_tlb.specs.Outcome.{EndsInAccessFault, IsOutcome}
use Rattle.hart_tlb.specs.declared.entry.TlbEntry.{TlbEntry}

-- the last n entries, or all if there are fewer
abbrev pub newest_entries : ℕ → List TlbEntry → List TlbEntry
newest_entries n es = drop (length es - n) es

-- what a fill for an address, from a root and under an ASID, does to a buffer of `places` places: the outcome of the walk is
-- added last, and a full buffer loses its first entry. A walk that ends in an access fault changes
-- nothing; each other walk has an outcome
pub record Fills (s : Scheme) (m : Memory) (there : Extent) (root asid address places : ℕ) (old new : List TlbEntry) : Type 0 where
  pub adds : (e : TlbEntry) → IsOutcome s m there root asid address e → new ≡ newest_entries places (old ++ e ∷ [])
  pub adds_nothing : EndsInAccessFault s m there root address → new ≡ old
  pub either : EndsInAccessFault s m there root address ⊎ ((e : TlbEntry) × IsOutcome s m there root asid address e)

-- the numbers of the entries that may serve an access to an address under an ASID, in ascending order
abbrev pub matching_numbers : List TlbEntry → ℕ → ℕ → List ℕ
matching_numbers es address asid = filter (λ n. is_match address asid (slice_get es n)) (range_with_len 0 (length es))
