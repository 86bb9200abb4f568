-- `AreLast`: which page tables may be released: they have no leaf, and the seat holds each of their frames once.
-- `ReleasesTables`: what a release of some changes in the tables and in what the seat holds. `SameTallies`: the seat's
-- credits and tallies stay.
use Rattle.std.specs.Prelude.{◌≡◌, ℕ, ◌≤◌, None, Some}
use Rattle.std.specs.FinMap.{get, remove}
use Rattle.frame_store.specs.View.{View, hold_of, IsHeld, not_held, references}
use Rattle.sv39_entry.specs.declared.scheme.Scheme.{Scheme}
use Rattle.table_walk.specs.Tables.{HasTables, Tables}

-- the credits and tallies of a seat stay
pub record SameTallies (v w : View) : Type 0 where
  pub credits : w.credits ≡ v.credits
  pub tallies : w.tallies ≡ v.tallies

-- tables that may be released: they have no leaf, the seat holds each of their frames once, and it
-- holds frame 0, which is none of them
pub record AreLast (v : View) (t : Tables) : Type 0 where
  pub bare : (n : ℕ) → get t.leaves n ≡ None
  pub once : (k f : ℕ) → get t.tables k ≡ Some f → references v f ≡ 1
  pub anchored : IsHeld v 0
  pub apart : (k : ℕ) → get t.tables k ≡ Some 0 → ⊥

-- the tables without table k
abbrev pub without_table : Tables → ℕ → Tables
without_table t k = record t { tables = remove t.tables k }

-- some of the tables with numbers above k were released, and the seat does not hold their frames. The other tables, the
-- leaves and what the seat has of frames that are no table stay, and so do its credits and tallies
pub record ReleasesTables (s : Scheme) (v w : View) (root k : ℕ) (t u : Tables) : Type 0 where
  pub tables : HasTables s w root u
  pub leaves : u.leaves ≡ t.leaves
  pub fewer : (j f : ℕ) → get u.tables j ≡ Some f → get t.tables j ≡ Some f
  pub stay : (j f : ℕ) → j ≤ k → get t.tables j ≡ Some f → get u.tables j ≡ Some f
  pub gone : (j f : ℕ) → get t.tables j ≡ Some f → get u.tables j ≡ None → hold_of w f ≡ not_held
  pub old : (j f : ℕ) → get u.tables j ≡ Some f → references w f ≡ references v f
  pub apart : (f : ℕ) → ((j : ℕ) → get t.tables j ≡ Some f → ⊥) → hold_of w f ≡ hold_of v f
  pub tallies : SameTallies v w
