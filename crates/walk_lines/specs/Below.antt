-- The entries of a table and of those below it, as a list by levels (`listed`), and that all these tables may be read
-- (`CanList`). The tables of n levels: the first has entries of level n - 1.
use Rattle.std.specs.Prelude.{◌≡◌, ⊤, ℕ, zero, suc, ◌+◌, ◌*◌, ◌^◌, ◌<◌, Option, None, Some, List, [], ◌∷◌, ◌++◌}
use Rattle.sv39_entry.specs.Word.{kind_of, ppn}
use Rattle.sv39_entry.specs.declared.entry.Kind.{Kind}
use Rattle.sv39_entry.specs.declared.entry.Kind.TheVariants as kind
use Rattle.table_walk.specs.Memory.{Memory}
use Rattle.walk_lines.specs.declared.listing.TableEntry.{TableEntry}

-- what a word lists: itself, and after a pointer the entries below it
abbrev pub by_kind : Kind → TableEntry → List TableEntry → List TableEntry
by_kind kind.Invalid e below = []
by_kind kind.Leaf e below = e ∷ []
by_kind kind.Pointer e below = e ∷ below

abbrev pub by_word : (ℕ → List TableEntry) → ℕ → ℕ → ℕ → ℕ → Option ℕ → List TableEntry
by_word below level table index page None = []
by_word below level table index page (Some w) =
    by_kind (kind_of w) (record { level = level; table = table; index = index; page = page; word = w }) (below (ppn w))

-- the lists of the first n indices, one after another
unfoldable pub in_turn : (ℕ → List TableEntry) → ℕ → List TableEntry
in_turn f zero = []
in_turn f (suc n) = in_turn f n ++ f n

-- the entries of a table whose first page is this one, and of those below it
unfoldable pub listed : Memory → ℕ → ℕ → ℕ → List TableEntry
listed m zero first table = []
listed m (suc n) first table = in_turn (λ i. by_word (listed m n (first + i * 512 ^ n)) n table i (first + i * 512 ^ n) (m table i)) 512

-- those of one index of a table, whose entries have level n
abbrev pub listed_at : Memory → ℕ → ℕ → ℕ → ℕ → List TableEntry
listed_at m n first table i = by_word (listed m n (first + i * 512 ^ n)) n table i (first + i * 512 ^ n) (m table i)

-- a table and all below it may be read
unfoldable pub CanList : (ℕ → Type 0) → Memory → ℕ → ℕ → Type 0
CanList readable m zero table = ⊤
CanList readable m (suc n) table = readable table × ((i w : ℕ) → i < 512 → m table i ≡ Some w → kind_of w ≡ kind.Pointer → CanList readable m n (ppn w))
