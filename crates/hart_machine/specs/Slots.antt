-- Membership in a set of slots.
use Rattle.std.specs.Prelude.{ℕ, Bool, false, List, slice_get, unwrap_or}

-- whether a slot is in the set with these members, one truth value for each slot
abbrev pub marks_of : List Bool → ℕ → Bool
marks_of members n = unwrap_or (slice_get members n) false
