-- Lemma: a machine in a world has as many slots as the world.
use Rattle.std.proofs.Common.{◌≡◌, ℕ, suc, List, [], ◌∷◌, length, Option, None, Some, refl, ap}
use Rattle.std.specs.Prelude.{slice_get}
use Rattle.process_model.specs.Process.{Process}
use Rattle.table_walk.specs.Tables.{Tables}
use Rattle.process_model.specs.World.{World}
use Rattle.hart_machine.specs.BufferEntries.{IsInWorld}
use Rattle.hart_machine.specs.Worlds.{IsSlotContent}
use Rattle.hart_machine.specs.declared.machine.Machine.{Machine}
use Rattle.hart_machine.specs.declared.slot_process.SlotProcess.{SlotProcess}

as_many : (xs : List (Option SlotProcess)) (ys : List (Option Process)) (tables : ℕ → Tables) → ((s : ℕ) → IsSlotContent (slice_get xs s) (slice_get ys s) (tables s)) → length xs ≡ length ys
as_many [] [] tables places = refl
as_many [] (y ∷ ys) tables places = absurd (places 0)
as_many (None ∷ xs) [] tables places = absurd (places 0)
as_many (Some x ∷ xs) [] tables places = absurd (places 0)
as_many (x ∷ xs) (y ∷ ys) tables places = ap suc (as_many xs ys (λ s. tables (suc s)) (λ s. places (suc s)))

pub slot_count_is : (m : Machine) (w : World) → IsInWorld m w → length m.slots.items ≡ length w.slots
slot_count_is m w is = as_many m.slots.items w.slots is.world.tables is.world.places
