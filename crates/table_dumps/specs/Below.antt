-- The valid page table entries (PTEs) of a table and of those below it, as a list by levels (`listed`). The tables of n levels: the first has PTEs
-- of level n - 1.
use Rattle.std.specs.Prelude.{ℕ, zero, suc, ◌+◌, ◌*◌, ◌^◌, Option, None, Some, List, [], ◌∷◌, ◌++◌}
use Rattle.sv39_entry.specs.Word.{ppn}
use Rattle.sv39_entry.specs.declared.entry.Kind.{Kind}
use Rattle.sv39_entry.specs.declared.entry.Kind.TheVariants as kind
use Rattle.walk_rules.specs.Kinds.{kind_in}
use Rattle.walk_rules.specs.declared.extensions.Extensions.{Extensions}
use Rattle.access_history.specs.History.{Memory}
use Rattle.table_dumps.specs.declared.listing.ValidEntry.{ValidEntry}

-- what a word lists: itself, and after a pointer the PTEs below it
abbrev pub by_kind : Kind → ValidEntry → List ValidEntry → List ValidEntry
by_kind kind.Invalid e below = []
by_kind kind.Leaf e below = e ∷ []
by_kind kind.Pointer e below = e ∷ below

abbrev pub by_word : Extensions → (ℕ → List ValidEntry) → ℕ → ℕ → ℕ → ℕ → Option ℕ → List ValidEntry
by_word x below level table index page None = []
by_word x below level table index page (Some w) =
    by_kind (kind_in x level w) (record { level = level; table = table; index = index; page = page; word = w }) (below (ppn w))

-- the lists of the first n indices, one after another
unfoldable pub in_turn : (ℕ → List ValidEntry) → ℕ → List ValidEntry
in_turn f zero = []
in_turn f (suc n) = in_turn f n ++ f n

-- the PTEs of a table whose first page is this one, and of those below it
unfoldable pub listed : Extensions → Memory → ℕ → ℕ → ℕ → List ValidEntry
listed x m zero first table = []
listed x m (suc n) first table =
    in_turn (λ i. by_word x (listed x m n (first + i * 512 ^ n)) n table i (first + i * 512 ^ n) (m table i)) 512

-- those of one index of a table, whose PTEs have level n
abbrev pub listed_at : Extensions → Memory → ℕ → ℕ → ℕ → ℕ → List ValidEntry
listed_at x m n first table i = by_word x (listed x m n (first + i * 512 ^ n)) n table i (first + i * 512 ^ n) (m table i)
