-- Lemmas for exit and fork: an exited process ends as `IsOver` and `KeepsFilesByOutcome` say; a process that forked, or
-- whose fork was refused, continues as `ContinuesTurn` says with the files unchanged (`KeepsFilesOn`); `cow_fork`'s errors
-- as refusals, with their evidence.
use Rattle.std.proofs.lemmas.List.{length-append}
use Rattle.std.proofs.Common.{◌≡◌, ◌⊎◌, ◌<◌, ◌≤◌, ℕ, ℤ, List, [], ◌∷◌, ◌++◌, length, refl, ap, sym, subst, ◌∙◌, arith, Option, None, Some, inl, inr}
use Rattle.address_space.specs.Steps.{IsBare, RunsDry, TakesFrames}
use Rattle.atomic_table.specs.Seated.{TableId}
use Rattle.cow_fork.specs.Forks.{refusal_of}
use Rattle.cow_fork.specs.declared.fork_process.ForkError.{ForkError}
use Rattle.cow_fork.specs.declared.fork_process.ForkError.TheVariants as fork
use Rattle.file_cabinet.specs.declared.promise.PromiseError.{PromiseError}
use Rattle.file_cabinet.specs.declared.promise.PromiseError.TheVariants as error
use Rattle.file_shelf.specs.ShelfStates.{asks, HasMoves, CanRefuse, ShelfState, stays}
use Rattle.frame_store.specs.View.{Tallies, View}
use Rattle.hart_calls.specs.ProcessEnd.{Closes, IsClosed, outcome_of}
use Rattle.hart_calls.specs.ShortageReports.{ReportsShortage}
use Rattle.hart_calls.specs.Replay.{call_at, call_of, forked, forks, IsReplayStep, Replays}
use Rattle.hart_calls.specs.CallOutcomes.{file_of, reads_of, call_outcome, writes_of}
use Rattle.hart_calls.specs.Track.{AppendsEntry, calls_of, IsChild, next_of, Track}
use Rattle.hart_calls.specs.TurnCases.{BySlot, KeepsFilesAtEnd, KeepsFilesOn, KeepsFilesByOutcome, ForkAnswer, ContinuesTurn, LeavesRunning, LacksEndRoom, LacksJournalRoom, IsOver, IsLastEntry, Unwritten}
use Rattle.hart_calls.proofs.Ends.{ends_claiming_none}
use Rattle.hart_calls.proofs.Full.{written_maps}
use Rattle.hart_calls.specs.CallResults.{RefusesPromise}
use Rattle.hart_calls.specs.Shortages.{frames_at, IsForkRefusal, CanBeShort, nothing, refused, Shortage, WasAsked}
use Rattle.hart_calls.specs.declared.journal_entry.JournalEntry.{JournalEntry}
use Rattle.hart_calls.specs.declared.finished.Finished.{Finished}
use Rattle.process_model.specs.declared.call.ProcessEnd.{ProcessEnd}
use Rattle.process_model.specs.declared.call.ProcessEnd.TheVariants as outcome
use Rattle.hart_calls.specs.declared.fork_slot.ForkSlot.{ForkSlot}
use Rattle.hart_calls.proofs.Journals.{one_longer}
use Rattle.process_model.specs.Files.{File}
use Rattle.process_model.specs.Frames.{fork_need}
use Rattle.process_model.specs.PageMoves.{all_moves, PageMove}
use Rattle.process_model.specs.Process.{Process}
use Rattle.process_model.specs.Residence.{marked}
use Rattle.process_model.specs.declared.call.Call.{Call}
use Rattle.process_model.specs.declared.call.Call.TheVariants as call
use Rattle.process_model.specs.declared.reply.Refusal.{Refusal}
use Rattle.process_model.specs.declared.reply.Refusal.TheVariants as refusal
use Rattle.process_model.specs.declared.reply.Reply.{Reply}
use Rattle.process_model.specs.declared.reply.ScalarReply.TheVariants as scalar
use Rattle.process_model.specs.declared.reply.Reply.TheVariants as reply
use Rattle.shared_frames.specs.SeatsOfTable.{FitsIn, view_of}
use Rattle.process_model.specs.declared.limits.TheConstants.{MOST_ENTRIES}

-- ---- exit

module _ (t : Track) (status : ℤ) (e : JournalEntry) (called : call_of e ≡ call.Exit status) (answer : e.reply ≡ reply.Scalar (scalar.Exited status)) (pages : e.pages ≡ []) (none : e.file ≡ None) (was : e.before.state ≡ t.state) (next : next_of t ≡ call.Exit status)
    (replays : Replays t.opening 0 0 (calls_of t) t.journal t.state) (room : length t.journal < MOST_ENTRIES) (f : Finished) (name : f.name.items ≡ t.name) (table : TableId) (fits : FitsIn table f.seat) (bare : IsBare (view_of f.seat)) (takes : TakesFrames t.seat (view_of f.seat) 0 []) (a d : ShelfState) (closes : Closes t.state t.journal e (outcome.Exited status) f a d) where
  abbrev leads : IsReplayStep a.files (forks t.journal) t.state e t.state
  leads = record {
    before = was;
    shortage = nothing;
    possible = tt;
    reply = answer ∙ ap (λ (k : Call). (call_outcome a.files nothing (forks t.journal) t.state k).reply) (sym called);
    process = ap (λ (k : Call). (call_outcome a.files nothing (forks t.journal) t.state k).process) (sym called);
    pages = pages ∙ ap (λ (k : Call). reads_of a.files nothing t.state k) (sym called);
    file = none ∙ ap (λ (k : Call). file_of a.files k) (sym called);
  }

  calm : ReportsShortage t.seat (view_of f.seat) a.files t.state (call_of e) nothing
  calm = subst (λ (k : Call). ReportsShortage t.seat (view_of f.seat) a.files t.state k nothing) (sym called) tt

  next_is : call_of e ≡ call_at (calls_of t) (length t.journal)
  next_is = called ∙ sym next

  broken_last : (z : PromiseError) → f.journal.items ≡ t.journal → IsLastEntry t f (outcome_of z)
  broken_last error.Memory same = (same, ends_claiming_none t.seat (view_of f.seat) takes)
  broken_last error.JournalFull same = (same, ends_claiming_none t.seat (view_of f.seat) takes)

  broken_end : CanRefuse a (length (all_moves t.state)) error.JournalFull → LacksEndRoom t.seat (view_of f.seat) t.state (next_of t) a
  broken_end could = subst (λ (k : Call). LacksEndRoom t.seat (view_of f.seat) t.state k a) (sym next) (nothing, tt, tt, tt, (omega (arith, could.0), omega (arith, could.1)))

  broken_full : (z : PromiseError) → CanRefuse a (length (all_moves t.state)) z → f.journal.items ≡ t.journal → LacksJournalRoom (view_of f.seat) t.state (calls_of t) f.journal.items (outcome_of z)
  broken_full error.Memory could same = let long = ap (λ (es : List JournalEntry). length es) same in omega (arith, long, room)
  broken_full error.JournalFull could same =
      inr (written_maps t.state (asks a (length (all_moves t.state)) error.JournalFull could), (t.seat, a, inr (subst (λ (es : List JournalEntry). LacksEndRoom t.seat (view_of f.seat) t.state (call_at (calls_of t) (length es)) a) (sym same) (broken_end could))))

  over_by : Closes t.state t.journal e (outcome.Exited status) f a d → IsOver table t f
  over_by (inl closed) = record {
    name = name;
    seat = fits;
    bare = bare;
    state = t.state;
    replays = subst (λ (es : List JournalEntry). Replays t.opening 0 0 (calls_of t) es t.state) (sym closed.journal) (one_longer t.opening (calls_of t) t.journal e t.state t.state replays next_is (a.files, leads));
    full = subst (LacksJournalRoom (view_of f.seat) t.state (calls_of t) f.journal.items) (sym closed.outcome) tt;
    few = let long = ap (λ (es : List JournalEntry). length es) closed.journal in let both = length-append t.journal (e ∷ []) in omega (arith, long, both, room);
    last = subst (λ (o : ProcessEnd). IsLastEntry t f o) (sym closed.outcome) record {
      entry = e;
      files = a.files;
      after = t.state;
      journal = closed.journal;
      next = next_is;
      leads = leads;
      reply = answer;
      lack = calm;
    };
  }
  over_by (inr broken) = record {
    name = name;
    seat = fits;
    bare = bare;
    state = t.state;
    replays = subst (λ (es : List JournalEntry). Replays t.opening 0 0 (calls_of t) es t.state) (sym broken.journal) replays;
    full = subst (LacksJournalRoom (view_of f.seat) t.state (calls_of t) f.journal.items) (sym broken.outcome) (broken_full broken.error broken.could broken.journal);
    few = let long = ap (λ (es : List JournalEntry). length es) broken.journal in omega (arith, long, room);
    last = subst (λ (o : ProcessEnd). IsLastEntry t f o) (sym broken.outcome) (broken_last broken.error broken.journal);
  }

  pub exit_over : IsOver table t f
  exit_over = over_by closes

  exit_end : IsClosed t.state t.journal e (outcome.Exited status) f a d → KeepsFilesAtEnd t f a d
  exit_end closed = record {
    entry = e;
    after = t.state;
    adds = closed.journal;
    leads = leads;
    files = closed.files ∙ ap (λ (k : Call). (call_outcome a.files nothing (forks t.journal) t.state k).files) (sym called);
    becomes = subst (λ (ms : List PageMove). HasMoves a (ms ++ all_moves t.state) d) (sym pages) closed.moves;
  }

  exit_unwritten : HasMoves a [] d → Unwritten t.state (next_of t) a d
  exit_unwritten moved = record { reads = []; by = inl refl; becomes = moved; files = moved.files }

  exit_broken : (z : PromiseError) → CanRefuse a (length (all_moves t.state)) z → HasMoves a [] d → KeepsFilesByOutcome t f (outcome_of z) a d
  exit_broken error.Memory could moved = exit_unwritten moved
  exit_broken error.JournalFull could moved = (exit_unwritten moved, inr (inr (broken_end could)))

  exit_by : Closes t.state t.journal e (outcome.Exited status) f a d → KeepsFilesByOutcome t f f.outcome a d
  exit_by (inl closed) = subst (λ (o : ProcessEnd). KeepsFilesByOutcome t f o a d) (sym closed.outcome) (exit_end closed)
  exit_by (inr broken) = subst (λ (o : ProcessEnd). KeepsFilesByOutcome t f o a d) (sym broken.outcome) (exit_broken broken.error broken.could broken.moves)

  pub exit_filed : KeepsFilesByOutcome t f f.outcome a d
  exit_filed = exit_by closes

-- ---- fork

-- it asks nothing of files

fork_lacks : (files other : List File) (p : Process) (k : ℕ) (w : Shortage) → CanBeShort files p (call.Fork k) w → CanBeShort other p (call.Fork k) w
fork_lacks files other p k nothing may = tt
fork_lacks files other p k (frames_at n) may = may
fork_lacks files other p k (refused done r) may = may

fork_asks : (Refused : ℕ → Refusal → Type 0) (Promised : ℕ → Type 0) (p : Process) (k : ℕ) (w : Shortage) → WasAsked Refused Promised p (call.Fork k) w
fork_asks Refused Promised p k nothing = tt
fork_asks Refused Promised p k (frames_at n) = tt
fork_asks Refused Promised p k (refused done r) = tt

fork_same : (files other : List File) (n : ℕ) (p : Process) (k : ℕ) (w : Shortage) → (call_outcome files w n p (call.Fork k)).reply ≡ (call_outcome other w n p (call.Fork k)).reply
fork_same files other n p k nothing = refl
fork_same files other n p k (frames_at m) = refl
fork_same files other n p k (refused done r) = refl

fork_process : (files other : List File) (n : ℕ) (p : Process) (k : ℕ) (w : Shortage) → (call_outcome files w n p (call.Fork k)).process ≡ (call_outcome other w n p (call.Fork k)).process
fork_process files other n p k nothing = refl
fork_process files other n p k (frames_at m) = refl
fork_process files other n p k (refused done r) = refl

fork_files : (files : List File) (n : ℕ) (p : Process) (k : ℕ) (w : Shortage) → files ≡ (call_outcome files w n p (call.Fork k)).files
fork_files files n p k nothing = refl
fork_files files n p k (frames_at m) = refl
fork_files files n p k (refused done r) = refl

module _ (t u : Track) (c : Option Track) (s : ForkSlot) (k : ℕ) (next : next_of t ≡ call.Fork k) (g : ContinuesTurn t u c s) (a : ShelfState) where
  is_fork : call_of g.entry ≡ call.Fork k
  is_fork = g.adds.next ∙ next

  pub fork_filed : KeepsFilesOn t u a a
  fork_filed =
      let n = forks t.journal in
      let w = g.leads.shortage in
      let e = g.entry in
      let back : call.Fork k ≡ (call_of e) = sym is_fork in
      record {
        entry = e;
        adds = g.adds.journal;
        leads = record {
          before = g.leads.before;
          shortage = w;
          possible = subst (λ (z : Call). CanBeShort a.files t.state z w) back (fork_lacks g.files a.files t.state k w (subst (λ (z : Call). CanBeShort g.files t.state z w) is_fork g.leads.possible));
          reply = g.leads.reply ∙ ap (λ (z : Call). (call_outcome g.files w n t.state z).reply) is_fork ∙ fork_same g.files a.files n t.state k w ∙ ap (λ (z : Call). (call_outcome a.files w n t.state z).reply) back;
          process = g.leads.process ∙ ap (λ (z : Call). (call_outcome g.files w n t.state z).process) is_fork ∙ fork_process g.files a.files n t.state k w ∙ ap (λ (z : Call). (call_outcome a.files w n t.state z).process) back;
          pages = g.leads.pages ∙ ap (λ (z : Call). reads_of g.files w t.state z) is_fork ∙ ap (λ (z : Call). reads_of a.files w t.state z) back;
          file = g.leads.file ∙ ap (λ (z : Call). file_of g.files z) is_fork ∙ ap (λ (z : Call). file_of a.files z) back;
        };
        files = fork_files a.files n t.state k w ∙ ap (λ (z : Call). (call_outcome a.files w n t.state z).files) back;
        becomes = subst (λ (ms : List PageMove). HasMoves a ms a)
            (sym (ap (λ (ms : List PageMove). ms ++ writes_of a.files w t.state (call_of e)) (g.leads.pages ∙ ap (λ (z : Call). reads_of g.files w t.state z) is_fork) ∙ ap (λ (z : Call). writes_of a.files w t.state z) is_fork))
            (stays a);
        request = subst (λ (z : Call). WasAsked (RefusesPromise HasMoves CanRefuse a e.pages) (λ n. n ≤ a.room) t.state z w) back (fork_asks (RefusesPromise HasMoves CanRefuse a e.pages) (λ n. n ≤ a.room) t.state k w);
      }

-- what the journal gets of it

pub record IsForkOf (p : Process) (e : JournalEntry) (k : ℕ) (r : Reply) : Type 0 where
  pub call : call_of e ≡ call.Fork k
  pub answer : e.reply ≡ r
  pub pages : e.pages ≡ []
  pub file : e.file ≡ None
  pub before : e.before.state ≡ p

module _ (n : ℕ) (p : Process) (e : JournalEntry) (k : ℕ) (w : Shortage) (r : Reply) (is : IsForkOf p e k r) where
  abbrev pub fork_leads : CanBeShort [] p (call.Fork k) w → r ≡ (call_outcome [] w n p (call.Fork k)).reply → (q : Process) → q ≡ (call_outcome [] w n p (call.Fork k)).process → IsReplayStep [] n p e q
  fork_leads may answer q state =
      let back : call.Fork k ≡ (call_of e) = sym is.call in
      record {
        before = is.before;
        shortage = w;
        possible = subst (λ (z : Call). CanBeShort [] p z w) back may;
        reply = is.answer ∙ answer ∙ ap (λ (z : Call). (call_outcome [] w n p z).reply) back;
        process = state ∙ ap (λ (z : Call). (call_outcome [] w n p z).process) back;
        pages = is.pages ∙ ap (λ (z : Call). reads_of [] w p z) back;
        file = is.file ∙ ap (λ (z : Call). file_of [] z) back;
      }

-- a child begins
pub fork_goes : (t u c : Track) (e : JournalEntry) (k : ℕ) (s : ForkSlot) → IsForkOf t.state e k (reply.Scalar (scalar.Forked (forks t.journal))) → AppendsEntry t u e → u.state ≡ marked t.state → IsChild t c k → ForkAnswer s (reply.Scalar (scalar.Forked (forks t.journal))) → ContinuesTurn t u (Some c) s
fork_goes t u c e k s is adds state child by_slot = record {
  entry = e;
  files = [];
  adds = adds;
  leads = fork_leads (forks t.journal) t.state e k nothing (reply.Scalar (scalar.Forked (forks t.journal))) is tt refl u.state state;
  on = subst LeavesRunning (sym is.answer) tt;
  child = (ap forked is.answer, (k, is.call, child));
  slot = subst (λ (z : Call). BySlot s z e.reply) (sym is.call) (subst (ForkAnswer s) (sym is.answer) by_slot);
  lack = subst (λ (z : Call). ReportsShortage t.seat u.seat [] t.state z nothing) (sym is.call) tt;
}

-- or it is refused
pub fork_stays : (t u : Track) (e : JournalEntry) (k : ℕ) (s : ForkSlot) (r : Refusal) → IsForkOf t.state e k (reply.Scalar (scalar.Refused r)) → IsForkRefusal r → AppendsEntry t u e → u.state ≡ t.state → ForkAnswer s (reply.Scalar (scalar.Refused r))
    → ReportsShortage t.seat u.seat [] t.state (call.Fork k) (refused 0 r) → ContinuesTurn t u None s
fork_stays t u e k s r is may adds state by_slot dry = record {
  entry = e;
  files = [];
  adds = adds;
  leads = fork_leads (forks t.journal) t.state e k (refused 0 r) (reply.Scalar (scalar.Refused r)) is may refl u.state state;
  on = subst LeavesRunning (sym is.answer) tt;
  child = ap forked is.answer;
  slot = subst (λ (z : Call). BySlot s z e.reply) (sym is.call) (subst (ForkAnswer s) (sym is.answer) by_slot);
  lack = subst (λ (z : Call). ReportsShortage t.seat u.seat [] t.state z (refused 0 r)) (sym is.call) dry;
}

-- a slot was wanted, or memory
pub fork_calm : (t u : Track) (k : ℕ) (r : Refusal) → IsForkRefusal r → (r ≡ refusal.NoFrame → ⊥) → (r ≡ refusal.SharersFull → ⊥) → ReportsShortage t.seat u.seat [] t.state (call.Fork k) (refused 0 r)
fork_calm t u k refusal.NoFrame may not other = absurd (not refl)
fork_calm t u k refusal.NoSlot may not other = tt
fork_calm t u k refusal.SharersFull may not other = absurd (other refl)
fork_calm t u k (refusal.BadImage x) may not other = absurd may
fork_calm t u k refusal.BadSize may not other = absurd may
fork_calm t u k refusal.NoRoom may not other = absurd may
fork_calm t u k refusal.BadArgument may not other = absurd may
fork_calm t u k refusal.FileNotWritable may not other = absurd may
fork_calm t u k refusal.MappingsFull may not other = absurd may
fork_calm t u k refusal.HoleInMapping may not other = absurd may
fork_calm t u k (refusal.Impossible x) may not other = absurd may
fork_calm t u k refusal.NoEntry may not other = absurd may
fork_calm t u k refusal.Memory may not other = tt
fork_calm t u k refusal.JournalFull may not other = absurd may

-- as cow_fork says

pub fork_may : (x : ForkError) → IsForkRefusal (refusal_of x)
fork_may fork.NoFrame = tt
fork_may fork.SharersFull = tt

pub fork_by_slot : (x : ForkError) → (forked (reply.Scalar (scalar.Refused (refusal_of x))) ≡ 1) ⊎ ((◌≡◌ {A = Reply} (reply.Scalar (scalar.Refused (refusal_of x))) (reply.Scalar (scalar.Refused refusal.NoFrame))) ⊎ (◌≡◌ {A = Reply} (reply.Scalar (scalar.Refused (refusal_of x))) (reply.Scalar (scalar.Refused refusal.SharersFull))))
fork_by_slot fork.NoFrame = inr (inl refl)
fork_by_slot fork.SharersFull = inr (inr refl)

pub fork_lack : (v w : View) (p : Process) (k : ℕ) (x : ForkError) → (x ≡ fork.NoFrame → RunsDry v w (fork_need p) []) → (x ≡ fork.SharersFull → TakesFrames v w 0 (65535 ∷ [])) → ReportsShortage v w [] p (call.Fork k) (refused 0 (refusal_of x))
fork_lack v w p k fork.NoFrame dry full =
    let d = dry refl in
    let claims = d.claims in
    record { zeros = d.zeros; short = d.short; claims = omega (arith, claims); looks = d.looks }
fork_lack v w p k fork.SharersFull dry full = ap (λ (z : Tallies). z.looks) (full refl).tallies
