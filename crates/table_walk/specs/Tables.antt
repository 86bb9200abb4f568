-- `Tables`: the page tables below a root as a record of two finite maps, by number: the frames of tables and the words of
-- leaves. `HasTables`: a seat knows them by the words of its frames. Then changes: a leaf put or removed, a table added,
-- those missing on the way to a page made (`IsGrown`), and what that changes for the seat (`ChangesTables`).
use Rattle.std.specs.Prelude.{◌≡◌, ℕ, zero, suc, ◌+◌, ◌-◌, ◌*◌, ◌/◌, ◌^◌, ◌<◌, ◌≤◌, ◌⊎◌, nat_lt, is_some, true, if◌then◌else◌, Option, None, Some, unwrap_or}
use Rattle.std.specs.Ordering.{nat_cmp}
use Rattle.std.specs.FinMap.{FinMap, empty, get, insert, remove}
use Rattle.frame_store.specs.View.{spent, Hold, View, hold_of, IsHeld, IsSole, known_word, references}
use Rattle.sv39_entry.specs.Address.{vpn}
use Rattle.sv39_entry.specs.Schemes.{top_level}
use Rattle.sv39_entry.specs.Word.{kind_of, pointer_word}
use Rattle.sv39_entry.specs.declared.entry.Kind.TheVariants.{Leaf}
use Rattle.sv39_entry.specs.declared.scheme.Scheme.{Scheme}

-- Tables and leaves have numbers, those of a tree of four levels: its root is 1, and what entry `index` of table k names or
-- is has the number 512 * k + index. A root of three levels has the number of the table for the lowest 2^27 pages, so that a
-- page has one number under both schemes. Here: the number of the root
abbrev pub root_node : Scheme → ℕ
root_node s = 512 ^ (3 - top_level s)

-- the number of what is k levels below the root on the way to a page: its tables, and below the last of them its leaf
abbrev pub node : Scheme → ℕ → ℕ → ℕ
node s page zero = root_node s
node s page (suc k) = node s page k * 512 + vpn page (top_level s - k)

-- the number of the last table on the way to a page
abbrev pub last_table : Scheme → ℕ → ℕ
last_table s page = node s page (top_level s)

-- the number of the leaf that a walk of a page may find
abbrev pub walk_leaf : Scheme → ℕ → ℕ
walk_leaf s page = node s page (suc (top_level s))

-- leaves have numbers from here on, tables have numbers below it
abbrev pub first_leaf : ℕ
first_leaf = 512 ^ 4

-- the number of the leaf of a page below the page limit (`low_leaf`)
abbrev pub leaf_node : ℕ → ℕ
leaf_node page = first_leaf + page

-- the frame of each table, and the word of each leaf, by number
pub record Tables : Type 0 where
  pub tables : FinMap nat_cmp ℕ
  pub leaves : FinMap nat_cmp ℕ

abbrev pub pointer_or_zero : Option ℕ → ℕ
pointer_or_zero None = 0
pointer_or_zero (Some f) = pointer_word f

-- the entry that is or names number n: the leaf, or a pointer to the table; 0 if there is neither
abbrev pub word_in : Tables → ℕ → ℕ
word_in t n = if nat_lt n first_leaf then pointer_or_zero (get t.tables n) else unwrap_or (get t.leaves n) 0

-- t has the tables below a root, by the words of frames that are known
pub record AreTables (s : Scheme) (known : ℕ → ℕ → Option ℕ) (root : ℕ) (t : Tables) : Type 0 where
  pub rooted : get t.tables (root_node s) ≡ Some root
  -- every word of every table is the one that t has
  pub words : (k f i : ℕ) → get t.tables k ≡ Some f → i < 512 → known f i ≡ Some (word_in t (k * 512 + i))
  -- no frame is two tables
  pub apart : (j k f : ℕ) → get t.tables j ≡ Some f → get t.tables k ≡ Some f → j ≡ k
  pub below : (k f : ℕ) → get t.tables k ≡ Some f → (root_node s ≤ k) × (k < first_leaf) × (f < 2 ^ 16)
  -- each table but the root, and each leaf, has its entry in a table
  pub hung : (k f : ℕ) → get t.tables k ≡ Some f → (k ≡ root_node s) ⊎ ((g : ℕ) × (get t.tables (k / 512) ≡ Some g))
  pub leaf_hung : (n w : ℕ) → get t.leaves n ≡ Some w → (kind_of w ≡ Leaf) × (first_leaf ≤ n) × ((g : ℕ) × (get t.tables (n / 512) ≡ Some g))

-- a seat knows the tables below a root, and is the sole holder of the frame of each
pub record HasTables (s : Scheme) (v : View) (root : ℕ) (t : Tables) : Type 0 where
  pub known : AreTables s (known_word v) root t
  pub own : (k f : ℕ) → get t.tables k ≡ Some f → IsHeld v f × IsSole v f

-- a root without entries
abbrev pub bare_root : Scheme → ℕ → Tables
bare_root s root = record { tables = insert empty (root_node s) root; leaves = empty }

-- changes of tables

abbrev pub with_leaf : Tables → ℕ → ℕ → Tables
with_leaf t n w = record t { leaves = insert t.leaves n w }

abbrev pub with_table : Tables → ℕ → ℕ → Tables
with_table t k f = record t { tables = insert t.tables k f }

abbrev pub without_leaf : Tables → ℕ → Tables
without_leaf t n = record t { leaves = remove t.leaves n }

-- how many of the first k tables below the root are missing on the way to a page
abbrev pub missing_to : Scheme → Tables → ℕ → ℕ → ℕ
missing_to s t page zero = 0
missing_to s t page (suc k) = missing_to s t page k + (if is_some (get t.tables (node s page (suc k))) then 0 else 1)

-- how many tables are missing on the way to a page
abbrev pub missing : Scheme → Tables → ℕ → ℕ
missing s t page = missing_to s t page (top_level s)

-- u is t with the tables that were missing on the way to a page, down to a depth, and no others; the leaves stay
pub record IsGrown (s : Scheme) (t u : Tables) (page depth : ℕ) : Type 0 where
  pub leaves : u.leaves ≡ t.leaves
  pub kept : (k f : ℕ) → get t.tables k ≡ Some f → get u.tables k ≡ Some f
  pub new : (k f : ℕ) → get u.tables k ≡ Some f → (get t.tables k ≡ Some f) ⊎ ((get t.tables k ≡ None) × ((i : ℕ) × (i ≤ depth) × (k ≡ node s page i)))
  pub whole : (i : ℕ) → i ≤ depth → (f : ℕ) × (get u.tables (node s page i) ≡ Some f)

-- what a change of tables from t to u does to a seat: n credits became the new tables, each held once; the references to the
-- frames of the others stay; and the seat has of each frame that is no table what it had
pub record ChangesTables (v w : View) (t u : Tables) (n : ℕ) : Type 0 where
  pub apart : (f : ℕ) → ((k : ℕ) → get u.tables k ≡ Some f → ⊥) → hold_of w f ≡ hold_of v f
  pub old : (k f : ℕ) → get t.tables k ≡ Some f → references w f ≡ references v f
  pub new : (k f : ℕ) → get u.tables k ≡ Some f → get t.tables k ≡ None → (references v f ≡ 0) × (references w f ≡ 1)
  pub credits : w.credits ≡ v.credits - n
  pub tallies : w.tallies ≡ spent n v.tallies

-- an empty table: the seat knows that each of its words is 0

abbrev pub zeros_to : ℕ → FinMap nat_cmp ℕ
zeros_to zero = empty
zeros_to (suc n) = insert (zeros_to n) n 0

abbrev pub blank_hold : Hold
blank_hold = record { references = 1; sole = true; words = zeros_to 512 }
