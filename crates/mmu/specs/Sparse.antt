-- The words of a `SparseMemory`, and whether a number is in one of its runs.
use Rattle.std.specs.Prelude.{ℕ, Bool, ◌<◌, nat_eq}
use Rattle.std.specs.HashMap.{get, spare}
use Rattle.mmu.specs.Words.{Numbered, is_in_some, or_zero}
use Rattle.mmu.specs.declared.memory.SparseMemory.{SparseMemory}

-- the word with each number: the one that was written, else zero in a run
abbrev pub word_of : SparseMemory → Numbered
word_of m n = or_zero (is_in_some m.runs n) (get nat_eq m.words n)

abbrev pub is_zeroed : SparseMemory → ℕ → Bool
is_zeroed m n = is_in_some m.runs n

-- there is room for one more word
abbrev pub HasRoom : SparseMemory → Type 0
HasRoom m = 0 < spare m.words
