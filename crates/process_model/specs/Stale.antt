-- Policy `asid`: which slots may have stale TLB entries after a step, since a process started there or its leaves changed;
-- these are marked on every hart. Policy `full` marks none.
use Rattle.std.specs.Prelude.{ℕ, Bool, true, false, not, ◌+◌, ◌==◌, ◌&&◌, ◌||◌, Option, None, Some, List, [], ◌∷◌, map, if◌then◌else◌}
use Rattle.std.specs.List.{list_any}
use Rattle.process_model.specs.Process.{Process, Page}
use Rattle.process_model.specs.Harts.{Hart}
use Rattle.process_model.specs.World.{World, StepOutcome}
use Rattle.process_model.specs.declared.config.Policy.{Policy}
use Rattle.process_model.specs.declared.config.Policy.TheVariants.{Full, Asid}

abbrev pub same_mark : Bool → Bool → Bool
same_mark true b = b
same_mark false b = not b

-- whether two settled pages have the same number, copy number and marks, and so the same leaf. The rights of regions need
-- not be compared: a call changes those of a settled page only if it releases the page or, as exec, gives new copy numbers
abbrev pub same_leaf : ℕ × Page → ℕ × Page → Bool
same_leaf a b =
    a.0 == b.0 && (a.1).copy == (b.1).copy && same_mark (a.1).cow (b.1).cow && same_mark (a.1).dirty (b.1).dirty

abbrev pub same_leaves : List (ℕ × Page) → List (ℕ × Page) → Bool
same_leaves [] [] = true
same_leaves (a ∷ rest) (b ∷ others) = same_leaf a b && same_leaves rest others
same_leaves _ _ = false

-- whether a process started in the slot, or its map from pages to copy numbers and marks changed. Exec is such a change: its
-- pages, at least three, have new copy numbers. The end of a process is none
abbrev pub is_changed : Option Process → Option Process → Bool
is_changed before None = false
is_changed None (Some q) = true
is_changed (Some p) (Some q) = not (same_leaves p.settled.entries q.settled.entries)

-- the numbers of the changed slots, the first slot having the number n
abbrev pub changed_slots : ℕ → List (Option Process) → List (Option Process) → List ℕ
changed_slots n (p ∷ ps) (q ∷ qs) = if is_changed p q then n ∷ changed_slots (n + 1) ps qs else changed_slots (n + 1) ps qs
changed_slots n _ _ = []

abbrev pub with_stale : List ℕ → Hart → Hart
with_stale slots hart = record hart { stale = λ s. list_any (λ n. n == s) slots || hart.stale s }

-- policy asid: the changed slots are marked on every hart, whose buffer may have stale entries of them; policy full marks
-- none
abbrev pub with_stale_slots : Policy → World → StepOutcome → StepOutcome
with_stale_slots Full before o = o
with_stale_slots Asid before o = record o { world = record o.world { harts = map (with_stale (changed_slots 0 before.slots o.world.slots)) o.world.harts } }
