-- Predicates on a process of a story (test case) and the child that it may have: their spaces agree with processes of the
-- model (`IsAlive`, `AreAlive`), their seats (owners' capabilities at the store; `seats_of`) fit the store (`FamilyFits`),
-- and a step keeps this for any other seats beside (`FamilyKeeps`).
use Rattle.std.specs.Prelude.{List, ◌∷◌, ◌++◌, Option, IfSome, option_map, option_to_list}
use Rattle.frame_store.specs.View.{View}
use Rattle.process_model.specs.Process.{Process}
use Rattle.table_walk.specs.Tables.{Tables}
use Rattle.address_space.specs.Agreement.{Body, body_of, IsSpace, IsAlive}
use Rattle.address_space.specs.declared.space.Space.{Space}

-- the space of the process does, and that of the child, if there is one
abbrev pub AreAlive : {S : Type 0} → (S → View) → Space S → Option (Space S) → Type 0
AreAlive view space child = IsAlive (body_of view space) × IfSome child (λ c. IsAlive (body_of view c))

-- the seat of the process, and then that of the child, if there is one
abbrev pub seats_of : {S : Type 0} → Space S → Option (Space S) → List S
seats_of space child = space.seat ∷ option_to_list (option_map (λ c. c.seat) child)

-- the store's invariant holds of these seats and of some others
abbrev pub FamilyFits : {Store S : Type 0} → (Store → List S → Type 0) → Store → Space S → Option (Space S) → Type 0
FamilyFits {Store} {S} invariant store space child = (others : List S) × invariant store (seats_of space child ++ others)

-- the step keeps the store's invariant with any other seats beside these; the views of the others do not change
abbrev pub FamilyKeeps : {Store S : Type 0} → (Store → List S → Type 0) → Store → Space S → Option (Space S) → Store → Space S → Option (Space S) → Type 0
FamilyKeeps {Store} {S} invariant store space child after space_after child_after =
    (others : List S) → invariant store (seats_of space child ++ others) → invariant after (seats_of space_after child_after ++ others)
