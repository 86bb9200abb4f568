-- The words that the walk to a page reads, as a list: one for each level that it comes to, the root's first.
use Rattle.std.specs.Prelude.{◌≡◌, ℕ, ◌-◌, ◌<◌, ◌≤◌, Option, Some, List, length, slice_get}
use Rattle.sv39_entry.specs.Address.{vpn}
use Rattle.sv39_entry.specs.Schemes.{top_level}
use Rattle.sv39_entry.specs.declared.scheme.Scheme.{Scheme}
use Rattle.table_walk.specs.Memory.{Memory}
use Rattle.table_walk.specs.Walk.{IsAt, Reads}
use Rattle.walk_lines.specs.declared.walk.WalkEntry.{WalkEntry}

-- entry number k: the walk reads this word after k pointers, in this table, at this index
pub record IsEntry (s : Scheme) (m : Memory) (root page k : ℕ) (e : WalkEntry) : Type 0 where
  pub low : k ≤ top_level s
  pub level : e.level ≡ top_level s - k
  pub way : IsAt s m root page k e.table
  pub index : e.index ≡ vpn page e.level
  pub read : m e.table e.index ≡ e.word

pub record AreRead (s : Scheme) (m : Memory) (root page : ℕ) (es : List WalkEntry) : Type 0 where
  pub each : (k : ℕ) (e : WalkEntry) → slice_get es k ≡ Some e → IsEntry s m root page k e
  -- no level to which the walk comes is left out
  pub all : (level : ℕ) (word : Option ℕ) → Reads s m root page level word → top_level s - level < length es
