-- Lemmas on the files over which calls are answered: a journal (a process's calls with their replies) runs on by one entry
-- (`one_over`), a call with the shelf of the run is over files that it reached (`lent_turn`) and leaves the shelf's first files
-- (`first_same`), one without a shelf needs none (`free_turn`, `free_over`), one made at once is over any (`kept_over`).
use Rattle.std.proofs.Common.{◌≡◌, inl, inr, ℕ, suc, ◌+◌, List, [], ◌∷◌, ◌++◌, length, Option, refl, sym, ap, ◌∙◌, subst, arith}
use Rattle.atomic_table.specs.Seated.{TableId}
use Rattle.file_shelf.specs.ShelfStates.{ShelfState}
use Rattle.hart_calls.specs.Replay.{call_at, call_of, forked, forks, IsReplayStep}
use Rattle.hart_calls.specs.Track.{AppendsEntry, Track}
use Rattle.hart_calls.specs.TurnCases.{ContinuesTurn, EndsBy, IsLastEntry, IsMmap, KeepsFilesByOutcome, KeepsFilesOn, NeedsFiles}
use Rattle.hart_calls.specs.TurnResults.{HasFilesAfter, HasTurned}
use Rattle.hart_calls.specs.declared.finished.Finished.{Finished}
use Rattle.hart_calls.specs.declared.fork_slot.ForkSlot.{ForkSlot}
use Rattle.hart_calls.specs.declared.journal_entry.JournalEntry.{JournalEntry}
use Rattle.hart_calls.specs.declared.turn.Turn.{Turn}
use Rattle.hart_calls.specs.declared.turn.Turn.TheVariants as turn
use Rattle.run_roster.specs.FilesOfRun.{AreFilesFor, AreReached, EndsOver, GoesOver, HasEndedOver, HasGoneOver, ReplaysOver}
use Rattle.process_model.specs.Files.{File}
use Rattle.process_model.specs.Process.{Process}
use Rattle.process_model.specs.declared.call.Call.{Call}
use Rattle.process_model.specs.declared.call.ProcessEnd.{ProcessEnd}
use Rattle.process_model.specs.declared.call.ProcessEnd.TheVariants as outcome
use Rattle.process_model.specs.declared.reply.Reply.{Reply}

-- one entry more

abbrev IsStepOver : List File → ℕ → Process → JournalEntry → Process → Type 0
IsStepOver first n q e r = (files : List File) × IsReplayStep files n q e r × AreFilesFor first q (call_of e) files

longer : (first : List File) (p : Process) (n k : ℕ) (calls : List Call) (es : List JournalEntry) (e : JournalEntry) (q r : Process) → ReplaysOver first p n k calls es q → call_of e ≡ call_at calls (k + length es)
    → IsStepOver first (n + forks es) q e r → ReplaysOver first p n k calls (es ++ e ∷ []) r
longer first p n k calls [] e q r replays next step =
    let none : n + 0 ≡ n = omega arith in
    let here : k + 0 ≡ k = omega arith in
    let led = subst (λ (z : Process). IsStepOver first n z e r) replays (subst (λ (m : ℕ). IsStepOver first m q e r) none step) in
    (subst (λ (m : ℕ). call_of e ≡ call_at calls m) here next, (led.0, r, led.1, led.2, refl))
longer first p n k calls (x ∷ es) e q r (was, (fs, s, one, given, rest)) next step =
    let many : n + (forked x.reply + forks es) ≡ n + forked x.reply + forks es = omega arith in
    let there : k + suc (length es) ≡ suc k + length es = omega arith in
    (was, (fs, s, one, given, longer first s (n + forked x.reply) (suc k) calls es e q r rest (subst (λ (m : ℕ). call_of e ≡ call_at calls m) there next) (subst (λ (m : ℕ). IsStepOver first m q e r) many step)))

-- from the beginning
pub one_over : (first : List File) (p : Process) (calls : List Call) (es : List JournalEntry) (e : JournalEntry) (q r : Process) → ReplaysOver first p 0 0 calls es q → call_of e ≡ call_at calls (length es)
    → IsStepOver first (forks es) q e r → ReplaysOver first p 0 0 calls (es ++ e ∷ []) r
one_over first p calls es e q r replays next step =
    let here : length es ≡ 0 + length es = omega arith in
    let many : forks es ≡ 0 + forks es = omega arith in
    longer first p 0 0 calls es e q r replays (subst (λ (m : ℕ). call_of e ≡ call_at calls m) here next) (subst (λ (m : ℕ). IsStepOver first m q e r) many step)

-- the last entries of two lists are one

abbrev head_or : JournalEntry → List JournalEntry → JournalEntry
head_or d [] = d
head_or d (x ∷ xs) = x

abbrev rest_of : List JournalEntry → List JournalEntry
rest_of [] = []
rest_of (x ∷ xs) = xs

last_same : (es : List JournalEntry) (e f : JournalEntry) → es ++ e ∷ [] ≡ es ++ f ∷ [] → e ≡ f
last_same [] e f is = ap (head_or e) is
last_same (x ∷ es) e f is = last_same es e f (ap rest_of is)

-- a call over files that the run reached

pub kept_over : (first : List File) (t u : Track) (a b : ShelfState) (e : JournalEntry) → AreReached first a.files → KeepsFilesOn t u a b → AppendsEntry t u e → GoesOver first t u
kept_over first t u a b e reached k adds = record {
  entry = k.entry;
  files = a.files;
  adds = k.adds;
  next = ap call_of (last_same t.journal k.entry e (sym k.adds ∙ adds.journal)) ∙ adds.next;
  leads = k.leads;
  given = inl reached;
}

-- files that nothing was read from or written to
pub reached_first : (first : List File) → AreReached first first
reached_first first = record { moves = []; right = tt; are = refl }

abbrev pub unused : List File → ShelfState
unused first = record { first = first; files = first; history = []; room = 0 }

module _ (first : List File) (t : Track) (f : Finished) (a b : ShelfState) (reached : AreReached first a.files) where
  lent_last : (x : ProcessEnd) → IsLastEntry t f x → KeepsFilesByOutcome t f x a b → HasEndedOver first t f x
  lent_last (outcome.Exited status) l k = record { entry = k.entry; files = a.files; after = k.after; adds = k.adds; next = ap call_of (last_same t.journal k.entry l.entry (sym k.adds ∙ l.journal)) ∙ l.next; leads = k.leads; given = inl reached }
  lent_last (outcome.Ended rule) l k = record { entry = k.entry; files = a.files; after = k.after; adds = k.adds; next = ap call_of (last_same t.journal k.entry l.entry (sym k.adds ∙ l.journal)) ∙ l.next; leads = k.leads; given = inl reached }
  lent_last (outcome.Refused r) l k = tt
  lent_last outcome.Memory l k = tt
  lent_last outcome.JournalFull l k = tt

pub lent_turn : {B : Type 0} (table : TableId) (first : List File) (t : Track) (r : Turn B) (s : ForkSlot) (a b : ShelfState) → AreReached first a.files → HasTurned table t r s → HasFilesAfter t r a b → HasGoneOver first t r
lent_turn table first t (turn.Continues u c) s a b reached went k = kept_over first t u a b went.entry reached k went.adds
lent_turn table first t (turn.Over f) s a b reached over k = lent_last first t f a b reached f.outcome over.last k

first_last : (t : Track) (f : Finished) (a b : ShelfState) (x : ProcessEnd) → KeepsFilesByOutcome t f x a b → b.first ≡ a.first
first_last t f a b (outcome.Exited status) k = k.becomes.first
first_last t f a b (outcome.Ended rule) k = k.becomes.first
first_last t f a b (outcome.Refused r) k = absurd k
first_last t f a b outcome.Memory k = k.becomes.first
first_last t f a b outcome.JournalFull k = k.0.becomes.first

pub first_same : {B : Type 0} (t : Track) (r : Turn B) (a b : ShelfState) → HasFilesAfter t r a b → b.first ≡ a.first
first_same t (turn.Continues u c) a b k = k.becomes.first
first_same t (turn.Over f) a b k = first_last t f a b f.outcome k

-- a call that needs no files

module _ (first : List File) (t : Track) (none : NeedsFiles t → ⊥) where
  pub free_over : (u : Track) (c : Option Track) (s : ForkSlot) → ContinuesTurn t u c s → GoesOver first t u
  free_over u c s g = record {
    entry = g.entry;
    files = g.files;
    adds = g.adds.journal;
    next = g.adds.next;
    leads = g.leads;
    given = inr ((λ mmap. none (inl (subst IsMmap g.adds.next mmap))), (λ maps. none (inr maps)));
  }

  free_end : (f : Finished) (r : Reply) → EndsBy t f r → EndsOver first t f
  free_end f r e = record {
    entry = e.entry;
    files = e.files;
    after = e.after;
    adds = e.journal;
    next = e.next;
    leads = e.leads;
    given = inr ((λ mmap. none (inl (subst IsMmap e.next mmap))), (λ maps. none (inr maps)));
  }

  free_last : (f : Finished) (x : ProcessEnd) → IsLastEntry t f x → HasEndedOver first t f x
  free_last f (outcome.Exited status) l = free_end f _ l
  free_last f (outcome.Ended rule) l = free_end f _ l
  free_last f (outcome.Refused r) l = tt
  free_last f outcome.Memory l = tt
  free_last f outcome.JournalFull l = tt

  pub free_turn : {B : Type 0} (table : TableId) (r : Turn B) (s : ForkSlot) → HasTurned table t r s → HasGoneOver first t r
  free_turn table (turn.Continues u c) s g = free_over u c s g
  free_turn table (turn.Over f) s over = free_last f f.outcome over.last
