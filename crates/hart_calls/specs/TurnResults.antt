-- What `next_call` promises, by the `Turn` (what one call leaves) that it returns: of the process, at the frame table of a
-- run (`HasTurned`), of a shelf that the call was lent (files that threads share, and their history: `HasFilesAfter`) and,
-- of a call without a shelf, that JournalFull ends it only if its journal has `MOST_ENTRIES` entries (`IsFullWithoutShelf`).
use Rattle.atomic_table.specs.Seated.{TableId}
use Rattle.hart_calls.specs.Track.{Track}
use Rattle.hart_calls.specs.TurnCases.{KeepsFilesOn, KeepsFilesByOutcome, IsFullByOutcome, ContinuesTurn, IsOver}
use Rattle.hart_calls.specs.declared.fork_slot.ForkSlot.{ForkSlot}
use Rattle.hart_calls.specs.declared.turn.Turn.{Turn}
use Rattle.hart_calls.specs.declared.turn.Turn.TheVariants as turn
use Rattle.file_shelf.specs.ShelfStates.{ShelfState}

abbrev pub HasTurned : {B : Type 0} → TableId → Track → Turn B → ForkSlot → Type 0
HasTurned table t (turn.Continues u c) s = ContinuesTurn t u c s
HasTurned table t (turn.Over f) s = IsOver table t f

abbrev pub HasFilesAfter : {B : Type 0} → Track → Turn B → ShelfState → ShelfState → Type 0
HasFilesAfter t (turn.Continues u c) a b = KeepsFilesOn t u a b
HasFilesAfter t (turn.Over f) a b = KeepsFilesByOutcome t f f.outcome a b

abbrev pub IsFullWithoutShelf : {B : Type 0} → Track → Turn B → Type 0
IsFullWithoutShelf t (turn.Continues u c) = Unit {0}
IsFullWithoutShelf t (turn.Over f) = IsFullByOutcome t f.outcome
