-- Lemmas: what one call does to the life (the roster's record of a process) that a voucher has: unchanged without a child
-- (`out_alone`), a birth for parent and child (`is_birth`, `elder_out`, `young_out`), an end (`over_back`); without a slot
-- there is no child.
use Rattle.std.proofs.Common.{◌≡◌, ◌⊎◌, inl, inr, ℕ, ◌+◌, List, [], ◌∷◌, ◌++◌, length, Option, None, Some, refl, sym, ap, ◌∙◌, subst, arith, Bool, true, false}
use Rattle.std.proofs.lemmas.List.{append-nil, append_assoc}
use Rattle.atomic_table.specs.Seated.{TableId}
use Rattle.vouchers.specs.Entries.{Birth, birth, TokenEntry as Life, entry}
use Rattle.hart_calls.specs.Replay.{call_of, forked, forks, list_at, Replays}
use Rattle.hart_calls.specs.ProcessCodes.{code_of}
use Rattle.run_roster.specs.Births.{began, birth_of, births_of, fork_list, heir}
use Rattle.hart_calls.specs.Track.{AppendsEntry, calls_of, IsChild, SameButSeat, Track}
use Rattle.hart_calls.specs.TurnCases.{BySlot, EndsBy, ContinuesTurn, LeavesRunning, LacksJournalRoom, IsOver, IsLastEntry}
use Rattle.hart_calls.specs.declared.journal_entry.JournalEntry.{JournalEntry}
use Rattle.hart_calls.specs.declared.finished.Finished.{Finished}
use Rattle.hart_calls.specs.declared.fork_slot.ForkSlot.{ForkSlot}
use Rattle.hart_calls.specs.declared.fork_slot.ForkSlot.TheVariants as slot
use Rattle.frame_store.specs.View.{View}
use Rattle.process_model.specs.Process.{Process}
use Rattle.process_model.specs.Residence.{child_of}
use Rattle.process_model.specs.declared.call.Call.{Call}
use Rattle.process_model.specs.declared.call.Call.TheVariants as call
use Rattle.process_model.specs.declared.call.Start.{Start}
use Rattle.process_model.specs.declared.call.ProcessEnd.{ProcessEnd}
use Rattle.process_model.specs.declared.call.ProcessEnd.TheVariants as outcome
use Rattle.process_model.specs.declared.reply.Reply.{Reply}
use Rattle.process_model.specs.declared.reply.ScalarReply.TheVariants as scalar
use Rattle.process_model.specs.declared.reply.Reply.TheVariants as reply
use Rattle.process_model.specs.declared.reply.Refusal.{Refusal}
use Rattle.process_model.specs.declared.reply.Refusal.TheVariants as refusal
use Rattle.shared_frames.specs.SeatsOfTable.{view_of}
use Rattle.run_roster.specs.Names.{no_start, some_name}
use Rattle.hart_threads.specs.Due.{IsNone}
use Rattle.run_roster.specs.FilesOfRun.{EndsOver, GoesOver, HasEndedOver, ReplaysOver, runs_new, RunsOver}
use Rattle.hart_threads.proofs.Reaching.{one_over}
use Rattle.process_model.specs.Files.{File}
use Rattle.std.proofs.Math.Logic.{∥∥₁_map}
use Rattle.run_roster.specs.Slots.{Unrefused}
use Rattle.std.proofs.lemmas.Bool.{and_parts}
use Rattle.run_roster.specs.RosterState.{all_go_on, AsEnded, EndsIn, GoOn, HasRun, IsEndedWithToken, IsBirth, IsOut, lets_go_on, BeginsAsImage}

-- a reply names a child, or none
abbrev Names : Birth → Reply → Type 0
Names c r = ((n : ℕ) × (r ≡ reply.Scalar (scalar.Forked n))) ⊎ ((forked r ≡ 0) × (heir c r ≡ []))

names : (c : Birth) (r : Reply) → Names c r
names c (reply.Scalar scalar.Done) = inr (refl, refl)
names c (reply.Scalar (scalar.Started n)) = inr (refl, refl)
names c (reply.Scalar (scalar.Forked n)) = inl (n, refl)
names c (reply.Scalar (scalar.Value n)) = inr (refl, refl)
names c (reply.Scalar scalar.Stored) = inr (refl, refl)
names c (reply.Scalar (scalar.Fault n)) = inr (refl, refl)
names c (reply.Scalar (scalar.Filled n)) = inr (refl, refl)
names c (reply.Scalar scalar.NothingFilled) = inr (refl, refl)
names c (reply.Scalar (scalar.InFrame n)) = inr (refl, refl)
names c (reply.Scalar scalar.Ready) = inr (refl, refl)
names c (reply.Scalar (scalar.Ended rule)) = inr (refl, refl)
names c (reply.Scalar (scalar.OldSize n)) = inr (refl, refl)
names c (reply.Scalar (scalar.MappedAt n)) = inr (refl, refl)
names c (reply.CopiedIn bytes) = inr (refl, refl)
names c (reply.Scalar (scalar.CopiedOut n)) = inr (refl, refl)
names c (reply.ShortIn rule bytes) = inr (refl, refl)
names c (reply.Scalar (scalar.ShortOut rule n)) = inr (refl, refl)
names c (reply.Scalar (scalar.Exited status)) = inr (refl, refl)
names c (reply.Scalar (scalar.Refused r)) = inr (refl, refl)

no_heir : (c : Birth) (r : Reply) → forked r ≡ 0 → heir c r ≡ []
no_heir c r none = elim (names c r) as (λ _. heir c r ≡ []) [
  | inl one ↦ absurd (let is : forked r ≡ 1 = ap forked one.1 in omega (arith, is, none))
  | inr is ↦ is.1
]

one_heir : (c : Birth) (r : Reply) → forked r ≡ 1 → heir c r ≡ c ∷ []
one_heir c r one = elim (names c r) as (λ _. heir c r ≡ c ∷ []) [
  | inl fork ↦ ap (heir c) fork.1
  | inr none ↦ absurd (let zero = none.0 in omega (arith, zero, one))
]

heirs_snoc : (es : List JournalEntry) (e : JournalEntry) → births_of (es ++ e ∷ []) ≡ births_of es ++ heir (birth_of e) e.reply
heirs_snoc [] e = append-nil (heir (birth_of e) e.reply)
heirs_snoc (x ∷ es) e = ap (λ hs. heir (birth_of x) x.reply ++ hs) (heirs_snoc es e) ∙ sym (append_assoc (heir (birth_of x) x.reply) (births_of es) (heir (birth_of e) e.reply))

heirs_after : (es fs : List JournalEntry) (e : JournalEntry) (hs : List Birth) → fs ≡ es ++ e ∷ [] → heir (birth_of e) e.reply ≡ hs → births_of fs ≡ births_of es ++ hs
heirs_after es fs e hs is h = ap births_of is ∙ (heirs_snoc es e ∙ ap (λ ys. births_of es ++ ys) h)

-- as many as the journal names
add_lengths : (xs ys : List Birth) → length (xs ++ ys) ≡ length xs + length ys
add_lengths [] ys = omega arith
add_lengths (x ∷ xs) ys = let r = add_lengths xs ys in omega (arith, r)

heir_counts : (c : Birth) (r : Reply) → length (heir c r) ≡ forked r
heir_counts c r = elim (names c r) as (λ _. length (heir c r) ≡ forked r) [
  | inl one ↦ (let a : length (heir c r) ≡ 1 = ap (λ q. length (heir c q)) one.1 in let b : forked r ≡ 1 = ap forked one.1 in a ∙ sym b)
  | inr none ↦ (let a : length (heir c r) ≡ 0 = ap length none.1 in a ∙ sym none.0)
]

heirs_count : (es : List JournalEntry) → length (births_of es) ≡ forks es
heirs_count [] = refl
heirs_count (e ∷ es) =
    let a = add_lengths (heir (birth_of e) e.reply) (births_of es) in
    let b = heir_counts (birth_of e) e.reply in
    let c = heirs_count es in
    omega (arith, a, b, c)

entry_by : (m n : List ℕ) (j k : Birth) (gs hs : List Birth) → m ≡ n → j ≡ k → gs ≡ hs → entry m j gs ≡ entry n k hs
entry_by m n j k gs hs a b c = ap (λ x. entry x j gs) a ∙ (ap (λ y. entry n y gs) b ∙ ap (λ y. entry n k y) c)

-- as they began: a process is the same if its list and its first process are, a child is as its fork's entry says

births : (j k : ℕ) (p q : Process) → j ≡ k → p ≡ q → birth j (code_of p) ≡ birth k (code_of q)
births j k p q a b = ap (λ (n : ℕ). birth n (code_of p)) a ∙ ap (λ (r : Process). birth k (code_of r)) b

began_same : (u t : Track) → u.list ≡ t.list → u.opening ≡ t.opening → began u ≡ began t
began_same u t list opening = births _ _ _ _ list opening

child_began : (t child : Track) (e : JournalEntry) (k : ℕ) → call_of e ≡ call.Fork k → e.before.state ≡ t.state → IsChild t child k → began child ≡ birth_of e
child_began t child e k fork before young = births _ _ _ _ (young.list ∙ ap fork_list (sym fork)) (young.opening ∙ ap child_of (sym before))

-- one more call that lets its process go on
lets : (r : Reply) → LeavesRunning r → lets_go_on r ≡ true
lets (reply.Scalar scalar.Done) on = refl
lets (reply.Scalar (scalar.Started n)) on = refl
lets (reply.Scalar (scalar.Forked n)) on = refl
lets (reply.Scalar (scalar.Value n)) on = refl
lets (reply.Scalar scalar.Stored) on = refl
lets (reply.Scalar (scalar.Fault n)) on = refl
lets (reply.Scalar (scalar.Filled n)) on = refl
lets (reply.Scalar scalar.NothingFilled) on = refl
lets (reply.Scalar (scalar.InFrame n)) on = refl
lets (reply.Scalar scalar.Ready) on = refl
lets (reply.Scalar (scalar.Ended r)) on = absurd on
lets (reply.Scalar (scalar.OldSize n)) on = refl
lets (reply.Scalar (scalar.MappedAt n)) on = refl
lets (reply.CopiedIn b) on = refl
lets (reply.Scalar (scalar.CopiedOut n)) on = refl
lets (reply.ShortIn r b) on = refl
lets (reply.Scalar (scalar.ShortOut r n)) on = refl
lets (reply.Scalar (scalar.Exited n)) on = absurd on
lets (reply.Scalar (scalar.Refused r)) on = refl

go_on : (es : List JournalEntry) (e : JournalEntry) → GoOn es → LeavesRunning e.reply → GoOn (es ++ e ∷ [])
go_on [] e go on = rw (lets e.reply on) refl
go_on (x ∷ es) e go on = let both = and_parts (lets_go_on x.reply) (all_go_on es) go in rw both.0 (go_on es e both.1 on)

-- a process's list is the same if its lists and its number in them are
same_calls : (u t : Track) → u.lists ≡ t.lists → u.list ≡ t.list → calls_of u ≡ calls_of t
same_calls u t lists list = ap (λ (ls : List (List Call)). list_at ls u.list) lists ∙ ap (λ (k : ℕ). list_at t.lists k) list

module _ (files : List File) (lists : List (List Call)) (starts : List Start) (held : List Life) (t : Track) (o : IsOut files lists starts held t) where
  opens_still : (u : Track) → u.name ≡ t.name → u.opening ≡ t.opening → BeginsAsImage starts u.name u.opening
  opens_still u name opening = subst (λ (p : Process). BeginsAsImage starts u.name p) (sym opening) (subst (λ (m : List ℕ). BeginsAsImage starts m t.opening) (sym name) o.opens)

  -- its journal runs on
  runs_on : (u : Track) (e : JournalEntry) → AppendsEntry t u e → GoesOver files t u → ∥ ReplaysOver files u.opening 0 0 (calls_of u) u.journal u.state ∥₁
  runs_on u e adds g = ∥∥₁_map o.runs (λ (r : ReplaysOver files t.opening 0 0 (calls_of t) t.journal t.state).
      subst (λ (p : Process). ReplaysOver files p 0 0 (calls_of u) u.journal u.state) (sym adds.opening)
      (subst (λ (cs : List Call). ReplaysOver files t.opening 0 0 cs u.journal u.state) (sym (same_calls u t adds.lists adds.list))
      (subst (λ (es : List JournalEntry). ReplaysOver files t.opening 0 0 (calls_of t) es u.state) (sym g.adds)
      (one_over files t.opening (calls_of t) t.journal g.entry t.state u.state r g.next (g.files, g.leads, g.given)))))

  -- it goes on, and its voucher tells of it
  goes_out : (given : List Life) (u : Track) (e : JournalEntry) → GoesOver files t u → AppendsEntry t u e → LeavesRunning e.reply → given ≡ entry u.name (began u) (births_of u.journal) ∷ [] → IsOut files lists starts given u
  goes_out given u e over adds on holds = record {
    holds = holds;
    lists = adds.lists ∙ o.lists;
    named = λ none. o.named (sym adds.name ∙ none);
    opens = opens_still u adds.name adds.opening;
    runs = runs_on u e adds over;
    goes = subst GoOn (sym adds.journal) (go_on t.journal e o.goes on);
  }

  -- without a child the voucher is the same
  pub out_alone : (u : Track) (c : Option Track) (s : ForkSlot) → GoesOver files t u → ContinuesTurn t u c s → c ≡ None → IsOut files lists starts held u
  out_alone u c s over went is =
      let g : ContinuesTurn t u None s = subst (λ (x : Option Track). ContinuesTurn t u x s) is went in
      let same : births_of u.journal ≡ births_of t.journal = heirs_after t.journal u.journal g.entry [] g.adds.journal (no_heir (birth_of g.entry) g.entry.reply g.child) ∙ append-nil (births_of t.journal) in
      goes_out held u g.entry over g.adds g.on (o.holds ∙ ap (λ (l : Life). l ∷ []) (entry_by _ _ _ _ _ _ (sym g.adds.name) (sym (began_same u t g.adds.list g.adds.opening)) (sym same)))

  -- a call that may have been made in place
  pub out_at_once : (u : Track) (made : Bool) → (made ≡ true → (s : ForkSlot) → ContinuesTurn t u None s) → (made ≡ false → u ≡ t) → (made ≡ true → GoesOver files t u) → IsOut files lists starts held u
  out_at_once u true went not over = out_alone u None slot.NoSlot (over refl) (went refl slot.NoSlot) refl
  out_at_once u false went not over = subst (IsOut files lists starts held) (sym (not refl)) o

  -- a call that may have been made in place with its service
  pub out_served : (u : Track) (made : Bool) → (made ≡ true → (s : ForkSlot) → ContinuesTurn t u None s) → (made ≡ false → SameButSeat t u) → (made ≡ true → GoesOver files t u) → IsOut files lists starts held u
  out_served u true went not over = out_alone u None slot.NoSlot (over refl) (went refl slot.NoSlot) refl
  out_served u false went not over =
      let same = not refl in
      record {
        holds = o.holds ∙ ap (λ (l : Life). l ∷ []) (entry_by _ _ _ _ _ _ (sym same.name) (sym (began_same u t same.list same.opening)) (ap births_of (sym same.journal)));
        lists = same.lists ∙ o.lists;
        named = λ none. o.named (sym same.name ∙ none);
        opens = opens_still u same.name same.opening;
        runs = ∥∥₁_map o.runs (λ (r : ReplaysOver files t.opening 0 0 (calls_of t) t.journal t.state).
            subst (λ (p : Process). ReplaysOver files p 0 0 (calls_of u) u.journal u.state) (sym same.opening)
            (subst (λ (cs : List Call). ReplaysOver files t.opening 0 0 cs u.journal u.state) (sym (same_calls u t same.lists same.list))
            (subst (λ (es : List JournalEntry). ReplaysOver files t.opening 0 0 (calls_of t) es u.state) (sym same.journal)
            (subst (λ (q : Process). ReplaysOver files t.opening 0 0 (calls_of t) t.journal q) (sym same.state) r))));
        goes = subst GoOn (sym same.journal) o.goes;
      }

  -- a child was named
  module _ (u child : Track) (c : Option Track) (s : ForkSlot) (went : ContinuesTurn t u c s) (is : c ≡ Some child) where
    here : ContinuesTurn t u (Some child) s
    here = subst (λ (x : Option Track). ContinuesTurn t u x s) is went

    pub is_birth : IsBirth held u child
    is_birth =
        let g = here in
        let k = g.child.1.0 in
        let young = g.child.1.2 in
        record {
          before = births_of t.journal;
          holds = o.holds ∙ ap (λ (l : Life). l ∷ []) (entry_by _ _ _ _ _ _ (sym g.adds.name) (sym (began_same u t g.adds.list g.adds.opening)) refl);
          named = λ none. o.named (sym g.adds.name ∙ none);
          journal = heirs_after t.journal u.journal g.entry (began child ∷ []) g.adds.journal (one_heir (birth_of g.entry) g.entry.reply g.child.0 ∙ ap (λ (b : Birth). b ∷ []) (sym (child_began t child g.entry k g.child.1.1 g.leads.before young)));
          name = young.name ∙ (ap (λ (m : List ℕ). m ++ forks t.journal ∷ []) (sym g.adds.name) ∙ ap (λ (n : ℕ). u.name ++ n ∷ []) (sym (heirs_count t.journal)));
          none = young.journal;
        }

    pub elder_out : GoesOver files t u → (given : List Life) → given ≡ entry u.name (began u) (births_of u.journal) ∷ [] → IsOut files lists starts given u
    elder_out over given holds = goes_out given u here.entry over here.adds here.on holds

    pub young_out : (given : List Life) → given ≡ entry child.name (began child) (births_of child.journal) ∷ [] → IsOut files lists starts given child
    young_out given holds =
        let young = here.child.1.2 in
        record {
          holds = holds;
          lists = young.lists ∙ o.lists;
          named = λ none. some_name t.name (forks t.journal) (sym young.name ∙ none);
          opens = λ st of. absurd (no_start t.name (forks t.journal) of.0 o.named (sym young.name ∙ of.1));
          runs = runs_new files child young.journal (young.state ∙ sym young.opening);
          goes = subst GoOn (sym young.journal) refl;
        }

  ends_in : (f : Finished) (r : Reply) → EndsBy t f r → EndsIn r f.journal.items
  ends_in f r e = (t.journal, e.entry, e.journal, e.reply, o.goes)

  -- an end names no child
  ends_heirs : (f : Finished) (r : Reply) → forked r ≡ 0 → EndsBy t f r → births_of f.journal.items ≡ births_of t.journal
  ends_heirs f r none e = heirs_after t.journal f.journal.items e.entry [] e.journal (no_heir (birth_of e.entry) e.entry.reply (ap forked e.reply ∙ none)) ∙ append-nil (births_of t.journal)

  last_heirs : (f : Finished) (x : ProcessEnd) → IsLastEntry t f x → births_of f.journal.items ≡ births_of t.journal
  last_heirs f (outcome.Exited status) l = ends_heirs f (reply.Scalar (scalar.Exited status)) refl l
  last_heirs f (outcome.Ended rule) l = ends_heirs f (reply.Scalar (scalar.Ended rule)) refl l
  last_heirs f (outcome.Refused r) l = absurd l
  last_heirs f outcome.Memory l = ap births_of l.0
  last_heirs f outcome.JournalFull l = ap births_of l.0

  last_began : (f : Finished) (x : ProcessEnd) → IsLastEntry t f x → Unrefused x
  last_began f (outcome.Refused r) l = absurd l
  last_began f x l = tt

  ends_over : (f : Finished) → EndsOver files t f → RunsOver files (calls_of t) t.opening f.journal.items
  ends_over f e = ∥∥₁_map o.runs (λ (r : ReplaysOver files t.opening 0 0 (calls_of t) t.journal t.state).
      (e.after, subst (λ (es : List JournalEntry). ReplaysOver files t.opening 0 0 (calls_of t) es e.after) (sym e.adds) (one_over files t.opening (calls_of t) t.journal e.entry t.state e.after r e.next (e.files, e.leads, e.given))))

  stays_over : (f : Finished) → f.journal.items ≡ t.journal → RunsOver files (calls_of t) t.opening f.journal.items
  stays_over f same = ∥∥₁_map o.runs (λ (r : ReplaysOver files t.opening 0 0 (calls_of t) t.journal t.state).
      (t.state, subst (λ (es : List JournalEntry). ReplaysOver files t.opening 0 0 (calls_of t) es t.state) (sym same) r))

  -- the journal at the end
  ended_runs : (f : Finished) (x : ProcessEnd) → IsLastEntry t f x → HasEndedOver files t f x → RunsOver files (calls_of t) t.opening f.journal.items
  ended_runs f (outcome.Exited status) l e = ends_over f e
  ended_runs f (outcome.Ended rule) l e = ends_over f e
  ended_runs f (outcome.Refused r) l e = absurd l
  ended_runs f outcome.Memory l e = stays_over f l.0
  ended_runs f outcome.JournalFull l e = stays_over f l.0

  module _ (calls : List Call) (f : Finished) (q : Process) (opens : BeginsAsImage starts t.name t.opening) (replays : Replays t.opening 0 0 calls f.journal.items q) (runs : RunsOver files calls t.opening f.journal.items) where
    ran : HasRun files starts calls t.name (code_of t.opening) f.journal.items
    ran = (t.opening, q, refl, opens, replays, runs)

    as_ended : (v : View) (x : ProcessEnd) → IsLastEntry t f x → LacksJournalRoom v q calls f.journal.items x → AsEnded files starts calls v x t.name (code_of t.opening) f.journal.items
    as_ended v (outcome.Exited status) l full = (ran, ends_in f (reply.Scalar (scalar.Exited status)) l)
    as_ended v (outcome.Ended rule) l full = (ran, ends_in f (reply.Scalar (scalar.Ended rule)) l)
    as_ended v (outcome.Refused r) l full = absurd l
    as_ended v outcome.Memory l full = (ran, subst GoOn (sym l.0) o.goes, full)
    as_ended v outcome.JournalFull l full = ((t.opening, q, refl, opens, replays, full, runs), subst GoOn (sym l.0) o.goes)

  pub over_back : (table : TableId) (f : Finished) → HasEndedOver files t f f.outcome → IsOver table t f → IsEndedWithToken table files lists starts held f
  over_back table f gone over =
      let replays = subst (λ (ls : List (List Call)). Replays t.opening 0 0 (list_at ls t.list) f.journal.items over.state) o.lists over.replays in
      let full = subst (λ (ls : List (List Call)). LacksJournalRoom (view_of f.seat) over.state (list_at ls t.list) f.journal.items f.outcome) o.lists over.full in
      let runs = subst (λ (ls : List (List Call)). RunsOver files (list_at ls t.list) t.opening f.journal.items) o.lists (ended_runs f f.outcome over.last gone) in (
        entry t.name (began t) (births_of t.journal),
        o.holds,
        o.named,
        record { name = over.name; children = last_heirs f f.outcome over.last; seat = over.seat; bare = over.bare; ended = as_ended (list_at lists t.list) f over.state o.opens replays runs (view_of f.seat) f.outcome over.last full; few = over.few },
        last_began f f.outcome over.last,
      )

-- without a slot there is no child
no_child : (t u c : Track) (s : ForkSlot) → IsNone s → ContinuesTurn t u (Some c) s → ⊥
no_child t u c (slot.Free name place) none g = none
no_child t u c slot.NoSlot none g = refused refusal.NoSlot (subst (λ (k : Call). BySlot slot.NoSlot k g.entry.reply) g.child.1.1 g.slot)
  where
    refused : (r : Refusal) → g.entry.reply ≡ reply.Scalar (scalar.Refused r) → ⊥
    refused r is = let one : forked g.entry.reply ≡ 1 = g.child.0 in let none : forked g.entry.reply ≡ 0 = ap forked is in omega (arith, one, none)
no_child t u c slot.Memory none g = refused refusal.Memory (subst (λ (k : Call). BySlot slot.Memory k g.entry.reply) g.child.1.1 g.slot)
  where
    refused : (r : Refusal) → g.entry.reply ≡ reply.Scalar (scalar.Refused r) → ⊥
    refused r is = let one : forked g.entry.reply ≡ 1 = g.child.0 in let none : forked g.entry.reply ≡ 0 = ap forked is in omega (arith, one, none)

pub unslotted : (t u c : Track) (o : Option Track) (s : ForkSlot) → IsNone s → ContinuesTurn t u o s → o ≡ Some c → ⊥
unslotted t u c o s none g is = no_child t u c s none (subst (λ (x : Option Track). ContinuesTurn t u x s) is g)
