-- The page tables that a machine's memory has from a root on, by the words there (`SeesTables`).
use Rattle.std.specs.Prelude.{ℕ, ◌+◌, ◌*◌, List, Option, slice_get}
use Rattle.sv39_entry.specs.declared.scheme.Scheme.{Scheme}
use Rattle.table_walk.specs.Tables.{AreTables, Tables}
use Rattle.hart_machine.specs.declared.machine.Machine.{Machine}

-- the word at an index of a frame
abbrev pub word_at : List ℕ → ℕ → ℕ → Option ℕ
word_at words frame index = slice_get words (frame * 512 + index)

-- the words from frame `root` on are those of the tables t: each table has the words that t says, and t has no others
abbrev pub SeesTables : Machine → Scheme → ℕ → Tables → Type 0
SeesTables m z root t = AreTables z (word_at m.frames.words) root t
