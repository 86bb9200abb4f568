-- Lemmas: what holds of a call, of an end and of the files for an unfinished process holds for it too if it differs only in
-- the memory that its journal has for further entries (`SameTrack`).
use Rattle.std.proofs.Common.{◌≡◌, ℕ, Option, None, Some, subst}
use Rattle.atomic_table.specs.Seated.{TableId}
use Rattle.file_shelf.specs.ShelfStates.{ShelfState}
use Rattle.hart_calls.specs.Track.{SameTrack, Track}
use Rattle.hart_calls.specs.TurnResults.{HasFilesAfter, HasTurned}
use Rattle.hart_calls.specs.TurnCases.{IsChildOf, EndsBy, KeepsFilesAtEnd, KeepsFilesOn, KeepsFilesByOutcome, ContinuesTurn, IsOver, IsLastEntry}
use Rattle.hart_calls.specs.declared.journal_entry.JournalEntry.{JournalEntry}
use Rattle.hart_calls.specs.declared.finished.Finished.{Finished}
use Rattle.process_model.specs.declared.call.ProcessEnd.{ProcessEnd}
use Rattle.process_model.specs.declared.call.ProcessEnd.TheVariants as outcome
use Rattle.hart_calls.specs.declared.fork_slot.ForkSlot.{ForkSlot}
use Rattle.hart_calls.specs.declared.fork_slot.ForkSlot.TheVariants as slot
use Rattle.hart_calls.specs.declared.turn.Turn.{Turn}
use Rattle.hart_calls.specs.declared.turn.Turn.TheVariants as turn
use Rattle.process_model.specs.declared.reply.Reply.{Reply}

module _ (t : Track) (room : ℕ) where
  abbrev roomy : Track
  roomy = record t { room = room }

  ends_room : (f : Finished) (r : Reply) → EndsBy roomy f r → EndsBy t f r
  ends_room f r e = record { entry = e.entry; files = e.files; after = e.after; journal = e.journal; next = e.next; leads = e.leads; reply = e.reply; lack = e.lack }

  last_room : (f : Finished) (o : ProcessEnd) → IsLastEntry roomy f o → IsLastEntry t f o
  last_room f (outcome.Exited n) l = ends_room f _ l
  last_room f (outcome.Ended r) l = ends_room f _ l
  last_room f (outcome.Refused r) l = l
  last_room f outcome.Memory l = l
  last_room f outcome.JournalFull l = l

  child_room : (c : Option Track) (e : JournalEntry) → IsChildOf c roomy e → IsChildOf c t e
  child_room None e is = is
  child_room (Some c) e (one, (k, by, child)) = (one, (k, by, record { name = child.name; lists = child.lists; list = child.list; opening = child.opening; state = child.state; journal = child.journal }))

  went_room : (u : Track) (c : Option Track) (s : ForkSlot) → ContinuesTurn roomy u c s → ContinuesTurn t u c s
  went_room u c s g = record {
    entry = g.entry;
    files = g.files;
    adds = record { name = g.adds.name; lists = g.adds.lists; list = g.adds.list; opening = g.adds.opening; journal = g.adds.journal; next = g.adds.next };
    leads = g.leads;
    on = g.on;
    child = child_room c g.entry g.child;
    slot = g.slot;
    lack = g.lack;
  }

  turned_room : {B : Type 0} (table : TableId) (x : Turn B) (s : ForkSlot) → HasTurned table roomy x s → HasTurned table t x s
  turned_room table (turn.Continues u c) s g = went_room u c s g
  turned_room table (turn.Over f) s o = record { name = o.name; seat = o.seat; bare = o.bare; state = o.state; replays = o.replays; last = last_room f f.outcome o.last; full = o.full; few = o.few }

  end_room : (f : Finished) (a b : ShelfState) → KeepsFilesAtEnd roomy f a b → KeepsFilesAtEnd t f a b
  end_room f a b e = record { entry = e.entry; after = e.after; adds = e.adds; leads = e.leads; files = e.files; becomes = e.becomes }

  over_room : (f : Finished) (o : ProcessEnd) (a b : ShelfState) → KeepsFilesByOutcome roomy f o a b → KeepsFilesByOutcome t f o a b
  over_room f (outcome.Exited n) a b l = end_room f a b l
  over_room f (outcome.Ended r) a b l = end_room f a b l
  over_room f (outcome.Refused r) a b l = l
  over_room f outcome.Memory a b l = l
  over_room f outcome.JournalFull a b l = l

  filed_room : {B : Type 0} (x : Turn B) (a b : ShelfState) → HasFilesAfter roomy x a b → HasFilesAfter t x a b
  filed_room (turn.Continues u c) a b g = record { entry = g.entry; adds = g.adds; leads = g.leads; files = g.files; becomes = g.becomes; request = g.request }
  filed_room (turn.Over f) a b o = over_room f f.outcome a b o

module _ (t v : Track) (same : SameTrack t v) where
  is_roomy : v ≡ roomy t v.room
  is_roomy = λ i. record { name = same.name i; lists = same.lists i; list = same.list i; opening = same.opening i; state = same.state i; journal = same.journal i; seat = same.seat i; room = v.room }

  pub turned_same : {B : Type 0} (table : TableId) (x : Turn B) (s : ForkSlot) → HasTurned table v x s → HasTurned table t x s
  turned_same table x s h = turned_room t v.room table x s (subst (λ (z : Track). HasTurned table z x s) is_roomy h)

  pub filed_same : {B : Type 0} (x : Turn B) (a b : ShelfState) → HasFilesAfter v x a b → HasFilesAfter t x a b
  filed_same x a b h = filed_room t v.room x a b (subst (λ (z : Track). HasFilesAfter z x a b) is_roomy h)

  pub over_same : (table : TableId) (f : Finished) → IsOver table v f → IsOver table t f
  over_same table f o = turned_room t v.room {B = Unit {0}} table (turn.Over f) slot.NoSlot (subst (λ (z : Track). IsOver table z f) is_roomy o)

  pub goes_same : (u : Track) (c : Option Track) (s : ForkSlot) → ContinuesTurn v u c s → ContinuesTurn t u c s
  goes_same u c s g = went_room t v.room u c s (subst (λ (z : Track). ContinuesTurn z u c s) is_roomy g)

  pub on_same : (u : Track) (a b : ShelfState) → KeepsFilesOn v u a b → KeepsFilesOn t u a b
  on_same u a b f = filed_room t v.room {B = Unit {0}} (turn.Continues u None) a b (subst (λ (z : Track). KeepsFilesOn z u a b) is_roomy f)

  pub ended_same : (f : Finished) (a b : ShelfState) → KeepsFilesByOutcome v f f.outcome a b → KeepsFilesByOutcome t f f.outcome a b
  ended_same f a b o = over_room t v.room f f.outcome a b (subst (λ (z : Track). KeepsFilesByOutcome z f f.outcome a b) is_roomy o)
