use Rattle.std.proofs.Common.{length, ◌-◌, ◌≡◌, ◌<◌, ◌≤◌, ℕ, slice_index}
use Rattle.frame_store.proofs.zeros.zeros_in_front.Given as goal

-- the words before an index are 0
abbrev pub invariant-groups : goal.invariant-groups
invariant-groups l = record {
  within : l.at ≤ length l.words;
  zeros : (i : ℕ) → i < l.at → slice_index l.words i ≡ 0;
}

abbrev pub decreases-groups : goal.decreases-groups
decreases-groups l = length l.words - l.at

abbrev pub invariant-words : goal.invariant-words
invariant-words l = record {
  within : l.at ≤ length l.words;
  zeros : (i : ℕ) → i < l.at → slice_index l.words i ≡ 0;
}

abbrev pub decreases-words : goal.decreases-words
decreases-words l = length l.words - l.at
