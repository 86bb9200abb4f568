-- Lemmas: from the result of a call neither fork nor exit in its space (`IsModelResult`), with its journal entry
-- (`IsEntryOf`): the process continues as `ContinuesTurn` and `KeepsFilesOn` say, or ends by a rule as `IsOver` and
-- `KeepsFilesByOutcome` say.
use Rattle.std.proofs.Common.{◌≡◌, ◌<◌, ◌≤◌, ◌∷◌, ℕ, List, [], ◌++◌, length, refl, ap, sym, subst, ◌∙◌, arith, None, inl, inr}
use Rattle.std.proofs.lemmas.List.{append-nil, length-append}
use Rattle.address_space.specs.Agreement.{Body}
use Rattle.address_space.specs.Steps.{IsBare, TakesFrames}
use Rattle.atomic_table.specs.Seated.{TableId}
use Rattle.file_cabinet.specs.declared.promise.PromiseError.{PromiseError}
use Rattle.file_cabinet.specs.declared.promise.PromiseError.TheVariants as error
use Rattle.file_shelf.specs.ShelfStates.{asks, HasMoves, CanRefuse, goes_on, ShelfState}
use Rattle.frame_store.specs.View.{View}
use Rattle.hart_calls.specs.CallKinds.{IsPlainCall}
use Rattle.hart_calls.specs.ProcessEnd.{Closes, IsClosed, outcome_of}
use Rattle.hart_calls.specs.CallResults.{address_of, at_stop, ClaimsNone, IsModelResult, IsPlain, RefusesPromise}
use Rattle.hart_calls.specs.ShortageReports.{ReportsShortage}
use Rattle.hart_calls.specs.Replay.{call_at, call_of, forked, forks, IsReplayStep, Replays}
use Rattle.hart_calls.specs.CallOutcomes.{file_of, reads_of, CallOutcome, call_outcome, writes_of}
use Rattle.hart_calls.specs.Track.{AppendsEntry, calls_of, next_of, Track}
use Rattle.hart_calls.specs.TurnCases.{BySlot, EndsIt, KeepsFilesAtEnd, KeepsFilesOn, KeepsFilesByOutcome, ContinuesTurn, LacksEndRoom, LacksJournalRoom, LeavesRunning, IsOver, IsLastEntry, Unwritten}
use Rattle.hart_calls.proofs.Ends.{ends_claiming_none}
use Rattle.hart_calls.proofs.Full.{written_maps}
use Rattle.hart_calls.specs.Shortages.{CanBeShort, Shortage, WasAsked}
use Rattle.hart_calls.specs.declared.journal_entry.JournalEntry.{JournalEntry}
use Rattle.hart_calls.specs.declared.finished.Finished.{Finished}
use Rattle.process_model.specs.declared.call.ProcessEnd.{ProcessEnd}
use Rattle.process_model.specs.declared.call.ProcessEnd.TheVariants as outcome
use Rattle.hart_calls.specs.declared.fork_slot.ForkSlot.{ForkSlot}
use Rattle.hart_calls.proofs.Filing.{ended_files, files_told, IsEnd, only_read}
use Rattle.hart_calls.proofs.Journals.{later_stop, no_slot, one_longer, plain_forks, plain_goes, same_told}
use Rattle.process_model.specs.Files.{File}
use Rattle.process_model.specs.Mappings.{all_written_back}
use Rattle.process_model.specs.PageMoves.{all_moves, files_after, PageMove}
use Rattle.process_model.specs.Process.{Process}
use Rattle.process_model.specs.declared.call.Call.{Call}
use Rattle.process_model.specs.declared.reply.Reply.{Reply}
use Rattle.process_model.specs.declared.reply.ScalarReply.TheVariants as scalar
use Rattle.process_model.specs.declared.reply.Reply.TheVariants as reply
use Rattle.shared_frames.specs.SeatsOfTable.{FitsIn, view_of}
use Rattle.sv39_entry.specs.declared.rule.Rule.{Rule}
use Rattle.process_model.specs.declared.limits.TheConstants.{MOST_ENTRIES}

-- the entry is of this call, with this answer

pub record IsEntryOf (t : Track) (a : ShelfState) (shortage : Shortage) (c : Call) (r : Reply) (e : JournalEntry) : Type 0 where
  pub call : call_of e ≡ c
  pub answer : e.reply ≡ r
  pub pages : e.pages ≡ reads_of a.files shortage t.state c
  pub file : e.file ≡ file_of a.files c
  pub before : e.before.state ≡ t.state

module _ (t : Track) (c : Call) (stays : IsPlainCall c) (a b : ShelfState) (shortage : Shortage) (r : Reply) (e : JournalEntry) (is : IsEntryOf t a shortage c r e) (x y : Body) (seen : x.view ≡ t.seat)
    (comes : IsModelResult x y a.files (λ ms. HasMoves a ms b) (RefusesPromise HasMoves CanRefuse a) (λ n. n ≤ b.room) t.state c shortage r) where
  abbrev n : ℕ
  n = forks t.journal

  pub same : call_outcome a.files shortage 0 t.state c ≡ call_outcome a.files shortage n t.state (call_of e)
  same = sym (same_told a.files shortage n t.state c stays) ∙ ap (call_outcome a.files shortage n t.state) (sym is.call)

  abbrev pub leads : (q : Process) → q ≡ (call_outcome a.files shortage 0 t.state c).process → IsReplayStep a.files n t.state e q
  leads q state = record {
    before = is.before;
    shortage = shortage;
    possible = subst (λ (k : Call). CanBeShort a.files t.state k shortage) (sym is.call) comes.possible;
    reply = is.answer ∙ comes.reply ∙ ap (λ (z : CallOutcome). z.reply) same;
    process = state ∙ ap (λ (z : CallOutcome). z.process) same;
    pages = is.pages ∙ ap (reads_of a.files shortage t.state) (sym is.call);
    file = is.file ∙ ap (file_of a.files) (sym is.call);
  }

  -- ---- it goes on

  module _ (u : Track) (adds : AppendsEntry t u e) (left : u.seat ≡ y.view) (state : u.state ≡ (call_outcome a.files shortage 0 t.state c).process) (plain : IsPlain r) where
    pub goes : (s : ForkSlot) → ContinuesTurn t u None s
    goes s = record {
      entry = e;
      files = a.files;
      adds = adds;
      leads = leads u.state state;
      on = subst LeavesRunning (sym is.answer) (plain_goes r plain);
      child = ap forked is.answer ∙ plain_forks r plain;
      slot = subst (λ (k : Call). BySlot s k e.reply) (sym is.call) (no_slot s c e.reply stays);
      lack = subst (λ (k : Call). ReportsShortage t.seat u.seat a.files t.state k shortage) (sym is.call)
          (subst (λ (v : View). ReportsShortage v u.seat a.files t.state c shortage) seen (subst (λ (v : View). ReportsShortage x.view v a.files t.state c shortage) (sym left) comes.lack));
    }

    pub filed : KeepsFilesOn t u a b
    filed = record {
      entry = e;
      adds = adds.journal;
      leads = leads u.state state;
      files = comes.moves.files ∙ files_told a.files t.state shortage c stays (subst LeavesRunning comes.reply (plain_goes r plain)) ∙ ap (λ (z : CallOutcome). z.files) same;
      becomes = subst (λ (ms : List PageMove). HasMoves a ms b)
          (ap (λ (ms : List PageMove). ms ++ writes_of a.files shortage t.state c) (sym is.pages) ∙ ap (λ (k : Call). e.pages ++ writes_of a.files shortage t.state k) (sym is.call))
          comes.moves;
      request = subst (λ (k : Call). WasAsked (RefusesPromise HasMoves CanRefuse a e.pages) (λ n. n ≤ b.room) t.state k shortage) (sym is.call)
          (subst (λ (ms : List PageMove). WasAsked (RefusesPromise HasMoves CanRefuse a ms) (λ n. n ≤ b.room) t.state c shortage) (sym is.pages) comes.request);
    }

  -- ---- it ends by a rule

  module _ (rule : Rule) (by : r ≡ reply.Scalar (scalar.Ended rule)) (stop : shortage ≡ at_stop rule (address_of c)) (next : c ≡ next_of t) (replays : Replays t.opening 0 0 (calls_of t) t.journal t.state) (room : length t.journal < MOST_ENTRIES)
      (f : Finished) (name : f.name.items ≡ t.name) (table : TableId) (fits : FitsIn table f.seat) (bare : IsBare (view_of f.seat)) (claimed_none : ClaimsNone x.view y.view) (takes : TakesFrames y.view (view_of f.seat) 0 []) (d : ShelfState) (closes : Closes t.state t.journal e (outcome.Ended rule) f b d) where
    next_is : call_of e ≡ call_at (calls_of t) (length t.journal)
    next_is = is.call ∙ next

    led : (files : List File) × IsReplayStep files n t.state e (call_outcome a.files shortage 0 t.state c).process
    led = (a.files, leads _ refl)

    left_lack : ReportsShortage t.seat (view_of f.seat) a.files t.state c shortage
    left_lack =
        subst (λ (v : View). ReportsShortage v (view_of f.seat) a.files t.state c shortage) seen
        (subst (λ (w : Shortage). ReportsShortage x.view (view_of f.seat) a.files t.state c w) (sym stop)
        (later_stop x.view y.view (view_of f.seat) takes a.files t.state c rule (address_of c) (subst (λ (w : Shortage). ReportsShortage x.view y.view a.files t.state c w) stop comes.lack)))

    still_lack : ReportsShortage t.seat (view_of f.seat) a.files t.state (call_of e) shortage
    still_lack = subst (λ (k : Call). ReportsShortage t.seat (view_of f.seat) a.files t.state k shortage) (sym is.call) left_lack

    -- ---- the files then

    abbrev all_moved : List PageMove
    all_moved = reads_of a.files shortage t.state c ++ writes_of a.files shortage t.state c

    ended : IsEnd a.files t.state (call_outcome a.files shortage 0 t.state c) (writes_of a.files shortage t.state c)
    ended = ended_files a.files t.state shortage c rule stays (sym comes.reply ∙ by)

    only_reads : all_moved ≡ e.pages
    only_reads = ap (λ (ms : List PageMove). reads_of a.files shortage t.state c ++ ms) ended.1 ∙ append-nil (reads_of a.files shortage t.state c) ∙ sym is.pages

    unchanged : b.files ≡ a.files
    unchanged = comes.moves.files ∙ ap (λ (ms : List PageMove). files_after a.files (reads_of a.files shortage t.state c ++ ms)) ended.1 ∙ ap (files_after a.files) (append-nil (reads_of a.files shortage t.state c)) ∙ only_read a.files t.state a.files shortage c

    moved : HasMoves a e.pages b
    moved = subst (λ (ms : List PageMove). HasMoves a ms b) only_reads comes.moves

    filed_end : IsClosed t.state t.journal e (outcome.Ended rule) f b d → KeepsFilesAtEnd t f a d
    filed_end closed = record {
      entry = e;
      after = (call_outcome a.files shortage 0 t.state c).process;
      adds = closed.journal;
      leads = leads _ refl;
      files = closed.files ∙ ap (λ (fs : List File). all_written_back fs t.state) unchanged ∙ sym ended.0 ∙ ap (λ (z : CallOutcome). z.files) same;
      becomes = goes_on a b d e.pages (all_moves t.state) moved closed.moves;
    }

    unwritten : HasMoves b [] d → Unwritten t.state (next_of t) a d
    unwritten none = record {
      reads = e.pages;
      by = inr (shortage, is.pages ∙ ap (reads_of a.files shortage t.state) next);
      becomes = subst (λ (ms : List PageMove). HasMoves a ms d) (append-nil e.pages) (goes_on a b d e.pages [] moved none);
      files = none.files ∙ unchanged;
    }

    could_before : CanRefuse b (length (all_moves t.state)) error.JournalFull → LacksEndRoom t.seat (view_of f.seat) t.state (next_of t) a
    could_before could =
        let long = ap (λ (hs : List PageMove). length hs) moved.history in
        let pages = ap (λ (ms : List PageMove). length ms) is.pages in
        let both = length-append a.history e.pages in
        let request = could.0 in
        let over = could.1 in
        let here : LacksEndRoom t.seat (view_of f.seat) t.state c a = (shortage, comes.possible, subst EndsIt (sym by ∙ comes.reply) tt, left_lack, (omega (arith, request), omega (arith, over, long, pages, both))) in
        subst (λ (k : Call). LacksEndRoom t.seat (view_of f.seat) t.state k a) next here

    -- ---- the process then

    left_none : ClaimsNone t.seat (view_of f.seat)
    left_none = ends_claiming_none y.view (view_of f.seat) takes ∙ claimed_none ∙ ap (λ (v : View). v.tallies.claims) seen

    broken_last : (z : PromiseError) → f.journal.items ≡ t.journal → IsLastEntry t f (outcome_of z)
    broken_last error.Memory same = (same, left_none)
    broken_last error.JournalFull same = (same, left_none)

    broken_full : (z : PromiseError) → CanRefuse b (length (all_moves t.state)) z → f.journal.items ≡ t.journal → LacksJournalRoom (view_of f.seat) t.state (calls_of t) f.journal.items (outcome_of z)
    broken_full error.Memory could same = let long = ap (λ (es : List JournalEntry). length es) same in omega (arith, long, room)
    broken_full error.JournalFull could same =
        inr (written_maps t.state (asks b (length (all_moves t.state)) error.JournalFull could), (t.seat, a, inr (subst (λ (es : List JournalEntry). LacksEndRoom t.seat (view_of f.seat) t.state (call_at (calls_of t) (length es)) a) (sym same) (could_before could))))

    over_by : Closes t.state t.journal e (outcome.Ended rule) f b d → IsOver table t f
    over_by (inl closed) = record {
      name = name;
      seat = fits;
      bare = bare;
      state = (call_outcome a.files shortage 0 t.state c).process;
      replays = subst (λ (es : List JournalEntry). Replays t.opening 0 0 (calls_of t) es (call_outcome a.files shortage 0 t.state c).process) (sym closed.journal) (one_longer t.opening (calls_of t) t.journal e t.state _ replays next_is led);
      full = subst (LacksJournalRoom (view_of f.seat) (call_outcome a.files shortage 0 t.state c).process (calls_of t) f.journal.items) (sym closed.outcome) tt;
      few = let long = ap (λ (es : List JournalEntry). length es) closed.journal in let both = length-append t.journal (e ∷ []) in omega (arith, long, both, room);
      last = subst (λ (o : ProcessEnd). IsLastEntry t f o) (sym closed.outcome) record {
        entry = e;
        files = a.files;
        after = (call_outcome a.files shortage 0 t.state c).process;
        journal = closed.journal;
        next = next_is;
        leads = leads _ refl;
        reply = is.answer ∙ by;
        lack = still_lack;
      };
    }
    over_by (inr broken) = record {
      name = name;
      seat = fits;
      bare = bare;
      state = t.state;
      replays = subst (λ (es : List JournalEntry). Replays t.opening 0 0 (calls_of t) es t.state) (sym broken.journal) replays;
      full = subst (LacksJournalRoom (view_of f.seat) t.state (calls_of t) f.journal.items) (sym broken.outcome) (broken_full broken.error broken.could broken.journal);
      few = let long = ap (λ (es : List JournalEntry). length es) broken.journal in omega (arith, long, room);
      last = subst (λ (o : ProcessEnd). IsLastEntry t f o) (sym broken.outcome) (broken_last broken.error broken.journal);
    }

    pub over : IsOver table t f
    over = over_by closes

    broken_files : (z : PromiseError) → CanRefuse b (length (all_moves t.state)) z → HasMoves b [] d → KeepsFilesByOutcome t f (outcome_of z) a d
    broken_files error.Memory could none = unwritten none
    broken_files error.JournalFull could none = (unwritten none, inr (inr (could_before could)))

    filed_by : Closes t.state t.journal e (outcome.Ended rule) f b d → KeepsFilesByOutcome t f f.outcome a d
    filed_by (inl closed) = subst (λ (o : ProcessEnd). KeepsFilesByOutcome t f o a d) (sym closed.outcome) (filed_end closed)
    filed_by (inr broken) = subst (λ (o : ProcessEnd). KeepsFilesByOutcome t f o a d) (sym broken.outcome) (broken_files broken.error broken.could broken.moves)

    pub filed_over : KeepsFilesByOutcome t f f.outcome a d
    filed_over = filed_by closes
