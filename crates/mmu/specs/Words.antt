-- A sparse memory as contracts see it: the 64-bit word with each number, which is physical address / 8 (`Numbered`). What a
-- write changes (`written`), and what a new run adds (`added`).
use Rattle.std.specs.Prelude.{ℕ, ◌<◌, ◌≤◌, Bool, true, false, ◌&&◌, nat_eq, nat_le, nat_lt, Option, None, Some}
use Rattle.std.specs.Prelude.{List, length, if◌then◌else◌}
use Rattle.std.specs.List.{All, AllPairs, AllWithin, list_any}
use Rattle.mmu.specs.declared.run.Run.{Run}

-- the word with each number; None outside the memory
abbrev pub Numbered : Type 0
Numbered = ℕ → Option ℕ

-- a number is in a run
abbrev pub is_in : Run → ℕ → Bool
is_in r n = nat_le r.first n && nat_lt n r.end

-- a number is in some of the runs
abbrev pub is_in_some : List Run → ℕ → Bool
is_in_some rs n = list_any (λ r. is_in r n) rs

-- no run is empty, and each ends below the first number of those after it
pub record AreApart (rs : List Run) : Type 0 where
  pub filled : All (λ r. r.first < r.end) rs
  pub apart : AllPairs (λ r s. r.end < s.first) rs

-- of such runs those that a run overlaps or touches are the ones from `low` on below `high`
pub record Meets (rs : List Run) (run : Run) (low high : ℕ) : Type 0 where
  pub order : low ≤ high
  pub bound : high ≤ length rs
  pub before : AllWithin (λ r. r.end < run.first) rs 0 low
  pub meeting : AllWithin (λ r. (run.first ≤ r.end) × (r.first ≤ run.end)) rs low high
  pub behind : AllWithin (λ r. run.end < r.first) rs high (length rs)

-- a word that was written, or zero in a run
abbrev pub or_zero : Bool → Option ℕ → Option ℕ
or_zero in_run (Some w) = Some w
or_zero true None = Some 0
or_zero false None = None

-- what a write of one word leaves
abbrev pub written : Numbered → ℕ → ℕ → Numbered
written m number word n = if nat_eq n number then Some word else m n

-- what a run of zeros adds: words that were there stay
abbrev pub added : Numbered → ℕ → ℕ → Numbered
added m first end n = or_zero (nat_le first n && nat_lt n end) (m n)
