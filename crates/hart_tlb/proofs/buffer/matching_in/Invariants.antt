use Rattle.std.proofs.Common.{◌≡◌, ℕ, ◌≤◌, filter, length, slice_get}
use Rattle.std.specs.List.{range_with_len}
use Rattle.hart_tlb.specs.Entries.{is_match}
use Rattle.hart_tlb.proofs.buffer.matching_in.Given as goal

-- the numbers so far
abbrev pub invariant-entries : goal.invariant-entries
invariant-entries g l = record {
  numbers : l.numbers.items ≡ filter (λ (n : ℕ). is_match l.va.0 l.asid (slice_get l.entries n)) (range_with_len 0 l.n);
  few : length l.numbers.items ≤ l.n;
}
