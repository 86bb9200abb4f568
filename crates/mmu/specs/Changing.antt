-- The changes of each word (`changes_at`), and by them the word at an earlier moment (`word_by`) and the store that wrote it (`since_by`).
use Rattle.std.specs.Prelude.{ℕ, Bool, nat_eq, nat_le, Option, None, Some, List, [], ◌∷◌, ◌++◌, if◌then◌else◌}
use Rattle.std.specs.HashMap.{get}
use Rattle.std.specs.List.Sorted.{IsNonDecreasingBy}
use Rattle.std.specs.declared.vec.Vec.{Vec}
use Rattle.mmu.specs.Words.{or_zero}
use Rattle.mmu.specs.declared.changes.Change.{Change}
use Rattle.mmu.specs.declared.changes.Changes.{Changes}

abbrev pub listed : {A : Type 0} → Option (Vec Change A) → List Change
listed None = []
listed (Some v) = v.items

-- the changes of the word with a number, the oldest first
abbrev pub changes_at : Changes → ℕ → List Change
changes_at c n = listed (get nat_eq c.lists n)

-- one more change of one word
abbrev pub pushed : (ℕ → List Change) → ℕ → Change → ℕ → List Change
pushed f place c n = if nat_eq place n then f n ++ c ∷ [] else f n

abbrev pub number_of : Change → ℕ
number_of c = c.number

-- changes are in the order of their numbers
abbrev pub AreInOrder : List Change → Type 0
AreInOrder cs = IsNonDecreasingBy number_of cs

-- the first change after a moment
abbrev pub after_by : List Change → ℕ → Option Change
after_by [] k = None
after_by (c ∷ cs) k = if nat_le c.number k then after_by cs k else Some c

-- the number of the last change up to a moment; `s` if there is none
abbrev pub since_by : ℕ → List Change → ℕ → ℕ
since_by s [] k = s
since_by s (c ∷ cs) k = if nat_le c.number k then since_by c.number cs k else s

abbrev pub word_before : Option Change → Option ℕ → Bool → Option ℕ
word_before None now zeroed = now
word_before (Some c) now zeroed = or_zero zeroed c.before

-- the word at a moment: the one before the first change after it, or the present one
abbrev pub word_by : List Change → Option ℕ → Bool → ℕ → Option ℕ
word_by cs now zeroed k = word_before (after_by cs k) now zeroed
