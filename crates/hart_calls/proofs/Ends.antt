-- Lemmas: a process that ends without a journal entry more (outcome Memory or JournalFull) ends as `IsOver` says, and leaves
-- the files as `KeepsFilesByOutcome` says; without a shelf (files and their history), JournalFull ends it only if its
-- journal is full (`unfiled_by`).
use Rattle.std.proofs.Common.{◌≡◌, ◌<◌, arith, ℕ, List, [], length, refl, sym, subst, ◌∙◌, ap, inl, inr}
use Rattle.std.proofs.lemmas.List.{append-nil}
use Rattle.atomic_table.specs.Seated.{TableId}
use Rattle.file_cabinet.specs.Promises.{refusal_of}
use Rattle.file_cabinet.specs.declared.promise.PromiseError.{PromiseError}
use Rattle.file_cabinet.specs.declared.promise.PromiseError.TheVariants as error
use Rattle.file_shelf.specs.ShelfStates.{HasMoves, CanRefuse, ShelfState}
use Rattle.address_space.specs.Steps.{TakesFrames}
use Rattle.frame_store.specs.View.{Tallies, View}
use Rattle.hart_calls.specs.ProcessEnd.{cause_of, IsCause}
use Rattle.hart_calls.specs.CallKinds.{IsAccessCall}
use Rattle.hart_calls.specs.CallResults.{ClaimsNone}
use Rattle.hart_calls.specs.CallOutcomes.{reads_of}
use Rattle.hart_calls.specs.Shortages.{nothing}
use Rattle.hart_calls.proofs.Full.{no_moves}
use Rattle.hart_calls.proofs.Staying.{reads_few}
use Rattle.hart_calls.specs.Replay.{call_at}
use Rattle.hart_calls.specs.Track.{next_of, Track}
use Rattle.hart_calls.specs.TurnResults.{HasFilesAfter, IsFullWithoutShelf}
use Rattle.hart_calls.specs.TurnCases.{HasMapping, IsCutFor, IsFullByOutcome, IsLastEntry, IsOver, KeepsFilesByOutcome, LacksJournalRoom, NeedsFiles}
use Rattle.hart_calls.specs.declared.turn.Turn.{Turn}
use Rattle.hart_calls.specs.declared.turn.Turn.TheVariants as turn
use Rattle.process_model.specs.PageMoves.{all_moves, PageMove}
use Rattle.hart_calls.specs.declared.finished.Finished.{Finished}
use Rattle.hart_calls.specs.declared.journal_entry.JournalEntry.{JournalEntry}
use Rattle.process_model.specs.Process.{Process}
use Rattle.process_model.specs.declared.call.Call.{Call}
use Rattle.shared_frames.specs.SeatsOfTable.{view_of}
use Rattle.process_model.specs.declared.call.ProcessEnd.{ProcessEnd}
use Rattle.process_model.specs.declared.call.ProcessEnd.TheVariants as outcome
use Rattle.process_model.specs.declared.reply.Refusal.{Refusal}
use Rattle.process_model.specs.declared.reply.Refusal.TheVariants as refusal
use Rattle.process_model.specs.declared.limits.TheConstants.{MOST_ENTRIES}

-- a space that ends claims no frame
pub ends_claiming_none : (v w : View) → TakesFrames v w 0 [] → ClaimsNone v w
ends_claiming_none v w takes = ap (λ (t : Tallies). t.claims) takes.tallies ∙ omega arith

pub cut_last : (t : Track) (f : Finished) (o : ProcessEnd) → IsCause o → f.journal.items ≡ t.journal → ClaimsNone t.seat (view_of f.seat) → IsLastEntry t f o
cut_last t f (outcome.Exited n) cause same none = absurd cause
cut_last t f (outcome.Ended r) cause same none = absurd cause
cut_last t f (outcome.Refused r) cause same none = absurd cause
cut_last t f outcome.Memory cause same none = (same, none)
cut_last t f outcome.JournalFull cause same none = (same, none)

-- why it ends so

pub cut_full : (w : View) (p : Process) (calls : List Call) (journal : List JournalEntry) (o : ProcessEnd) → IsCutFor p (call_at calls (length journal)) journal o → LacksJournalRoom w p calls journal o
cut_full w p calls journal (outcome.Exited n) why = tt
cut_full w p calls journal (outcome.Ended r) why = tt
cut_full w p calls journal (outcome.Refused r) why = tt
cut_full w p calls journal outcome.Memory few = few
cut_full w p calls journal outcome.JournalFull (inl full) = inl full
cut_full w p calls journal outcome.JournalFull (inr (maps, lacks)) = inr (maps, (w, lacks.0, inl lacks.1))

-- the files refused to promise the page of an access
pub cut_for : (p : Process) (c : Call) (journal : List JournalEntry) (a : ShelfState) (r : Refusal) (x : PromiseError) → length journal < MOST_ENTRIES → HasMapping p.mappings → IsAccessCall c → 0 < length (reads_of a.files nothing p c) → CanRefuse a 1 x → r ≡ refusal_of x
    → IsCutFor p c journal (cause_of r)
cut_for p c journal a r x few maps access some could is = subst (λ (z : Refusal). IsCutFor p c journal (cause_of z)) (sym is) (go x could)
  where
    go : (z : PromiseError) → CanRefuse a 1 z → IsCutFor p c journal (cause_of (refusal_of z))
    go error.Memory can = few
    go error.JournalFull can = inr (maps, (a, (access, some, can)))

-- what its seat read is of no account then, if it claimed nothing

seated_last : (t : Track) (seat : View) (room : ℕ) → ClaimsNone t.seat seat → (f : Finished) (o : ProcessEnd) → IsCause o → IsLastEntry (record t { seat = seat; room = room }) f o → IsLastEntry t f o
seated_last t seat room none f (outcome.Exited n) cause l = absurd cause
seated_last t seat room none f (outcome.Ended r) cause l = absurd cause
seated_last t seat room none f (outcome.Refused r) cause l = absurd cause
seated_last t seat room none f outcome.Memory cause l = (l.0, l.1 ∙ none)
seated_last t seat room none f outcome.JournalFull cause l = (l.0, l.1 ∙ none)

pub cut_over : (table : TableId) (t : Track) (seat : View) (room : ℕ) → ClaimsNone t.seat seat → (f : Finished) (o : ProcessEnd) → IsCause o → f.outcome ≡ o → IsOver table (record t { seat = seat; room = room }) f → IsOver table t f
cut_over table t seat room none f o cause is over = record {
  name = over.name;
  seat = over.seat;
  bare = over.bare;
  state = over.state;
  replays = over.replays;
  last = seated_last t seat room none f f.outcome (subst IsCause (sym is) cause) over.last;
  full = over.full;
  few = over.few;
}

pub is_cause : (r : Refusal) → IsCause (cause_of r)
is_cause refusal.NoFrame = tt
is_cause refusal.NoSlot = tt
is_cause refusal.SharersFull = tt
is_cause (refusal.BadImage x) = tt
is_cause refusal.BadSize = tt
is_cause refusal.NoRoom = tt
is_cause refusal.BadArgument = tt
is_cause refusal.FileNotWritable = tt
is_cause refusal.MappingsFull = tt
is_cause refusal.HoleInMapping = tt
is_cause (refusal.Impossible x) = tt
is_cause refusal.NoEntry = tt
is_cause refusal.Memory = tt
is_cause refusal.JournalFull = tt

-- files that nobody read or wrote refuse what they refused before
pub could_still : (a g : ShelfState) (n : ℕ) (x : PromiseError) → HasMoves a [] g → CanRefuse g n x → CanRefuse a n x
could_still a g n x became could = go x could
  where
    same : length g.history ≡ length a.history
    same = ap (λ (ms : List PageMove). length ms) (became.history ∙ append-nil a.history)

    go : (z : PromiseError) → CanRefuse g n z → CanRefuse a n z
    go error.Memory can = (can.0, omega (arith, can.1, same))
    go error.JournalFull can = (can.0, omega (arith, can.1, same))

error_files : (t : Track) (f : Finished) (a b : ShelfState) (x : PromiseError) → IsAccessCall (next_of t) → 0 < length (reads_of a.files nothing t.state (next_of t)) → CanRefuse a 1 x → HasMoves a [] b → KeepsFilesByOutcome t f (cause_of (refusal_of x)) a b
error_files t f a b error.Memory access some could moved = record { reads = []; by = inl refl; becomes = moved; files = moved.files }
error_files t f a b error.JournalFull access some could moved = (record { reads = []; by = inl refl; becomes = moved; files = moved.files }, inr (inl (access, some, could)))

pub cut_files : (t : Track) (f : Finished) (a b : ShelfState) (r : Refusal) (x : PromiseError) → CanRefuse a 1 x → 0 < length (reads_of a.files nothing t.state (next_of t)) → r ≡ refusal_of x → HasMoves a [] b → IsAccessCall (next_of t) → f.outcome ≡ cause_of r → KeepsFilesByOutcome t f f.outcome a b
cut_files t f a b r x could some by moved access is = subst (λ (o : ProcessEnd). KeepsFilesByOutcome t f o a b) (sym (is ∙ ap cause_of by)) (error_files t f a b x access some could moved)

-- ---- without files

full_by : (t : Track) (f : Finished) (o : ProcessEnd) (a b : ShelfState) → KeepsFilesByOutcome t f o a b → a.history ≡ [] → all_moves t.state ≡ [] → IsFullByOutcome t o
full_by t f (outcome.Exited n) a b filed empty none = tt
full_by t f (outcome.Ended r) a b filed empty none = tt
full_by t f (outcome.Refused r) a b filed empty none = tt
full_by t f outcome.Memory a b filed empty none = tt
full_by t f outcome.JournalFull a b (same, inl full) empty none = full
full_by t f outcome.JournalFull a b (same, inr (inl (access, some, could))) empty none =
    let long = ap (λ (ms : List PageMove). length ms) empty in
    let over = could.1 in
    absurd (omega (arith, over, long))
full_by t f outcome.JournalFull a b (same, inr (inr (shortage, may, ends, lack, could))) empty none =
    let long = ap (λ (ms : List PageMove). length ms) empty in
    let moves = ap (λ (ms : List PageMove). length ms) none in
    let few = reads_few a.files shortage t.state (next_of t) in
    let over = could.1 in
    absurd (omega (arith, few, over, long, moves))

pub unfiled_by : {B : Type 0} (t : Track) (x : Turn B) (a b : ShelfState) → HasFilesAfter t x a b → a.history ≡ [] → (NeedsFiles t → ⊥) → IsFullWithoutShelf t x
unfiled_by t (turn.Continues u c) a b filed empty none = tt
unfiled_by t (turn.Over f) a b filed empty none = full_by t f f.outcome a b filed empty (no_moves t.state t.state.mappings refl (λ h. none (inr h)))
