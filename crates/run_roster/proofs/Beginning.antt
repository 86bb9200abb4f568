-- Lemmas for enlisting a start: a process that began is unfinished as its voucher says (`begun_out`), a start without a
-- process has ended (`unbegun_ended`), and which start is next when so many are left.
use Rattle.std.proofs.Common.{◌≡◌, ℕ, ◌+◌, ◌-◌, ◌<◌, List, [], ◌∷◌, Option, None, Some, length, get_or, refl, sym, ap, ◌∙◌, subst, arith}
use Rattle.std.specs.Prelude.{slice_get}
use Rattle.std.proofs.lemmas.Grind.{merely}
use Rattle.std.proofs.lemmas.Option.{slice_get-get_or}
use base.Stored.{Gv, gnil}
use Rattle.atomic_table.specs.Seated.{TableId}
use Rattle.hart_calls.specs.ProcessCodes.{code_of}
use Rattle.vouchers.specs.Entries.{Birth, birth, TokenEntry as Life, entry}
use Rattle.hart_calls.specs.Replay.{list_at, Replays}
use Rattle.run_roster.specs.Names.{first_of}
use Rattle.run_roster.specs.FilesOfRun.{ReplaysOver, runs_new}
use Rattle.process_model.specs.Files.{File}
use Rattle.run_roster.specs.Births.{began, births_of}
use Rattle.hart_calls.specs.Track.{Track}
use Rattle.hart_calls.specs.declared.journal_entry.JournalEntry.{JournalEntry}
use Rattle.hart_calls.specs.declared.finished.Finished.{Finished}
use Rattle.process_model.specs.Process.{Process}
use Rattle.process_model.specs.declared.call.Call.{Call}
use Rattle.process_model.specs.declared.call.Start.{Start}
use Rattle.process_model.specs.declared.call.ProcessEnd.{ProcessEnd}
use Rattle.process_model.specs.declared.call.ProcessEnd.TheVariants as outcome
use Rattle.shared_frames.specs.SeatsOfTable.{view_of}
use Rattle.frame_store.specs.View.{View}
use Rattle.run_roster.specs.StartEffects.{IsUnbegun, IsWhy}
use Rattle.run_roster.specs.Starts.{IsProcessOf}
use Rattle.run_roster.specs.RosterState.{AsEnded, GoOn, IsEnded, IsOfStart, IsOut, BeginsAsImage}

abbrev or_start : Start → Option Start → Start
or_start d None = d
or_start d (Some s) = s

module _ (files : List File) (lists : List (List Call)) (starts : List Start) (i : ℕ) (s : Start) (at : slice_get starts i ≡ Some s) (name : List ℕ) (named : name ≡ i ∷ []) where
  -- a name is of one start alone
  only : (t : Start) → IsOfStart starts name t → t ≡ s
  only t of =
      let same : of.0 ≡ i = ap first_of (sym of.1 ∙ named) in
      let both : Some t ≡ Some s = sym of.2 ∙ (ap (slice_get starts) same ∙ at) in
      ap (or_start s) both

  opens : (p : Process) → IsProcessOf s.image p → BeginsAsImage starts name p
  opens p is t of = merely (subst (λ (u : Start). IsProcessOf u.image p) (sym (only t of)) is)

  some : name ≡ [] → ⊥
  some none = absurd (let no : i ∷ [] ≡ [] = sym named ∙ none in cc)

  -- a process begins
  pub begun_out : (held : List Life) (k : ℕ) (t : Track) (p : Process) → k ≡ s.list → IsProcessOf s.image p → held ≡ entry name (birth k (code_of p)) [] ∷ [] → t.name ≡ name → t.lists ≡ lists → t.list ≡ k → t.opening ≡ p → t.state ≡ p → t.journal ≡ [] → IsOut files lists starts held t
  begun_out held k t p list is holds names its_lists its_list its_opening its_state none = record {
    holds = holds ∙ (ap (λ (m : List ℕ). entry m (birth k (code_of p)) [] ∷ []) (sym names) ∙ (ap (λ (n : ℕ). entry t.name (birth n (code_of p)) [] ∷ []) (sym its_list) ∙ (ap (λ (q : Process). entry t.name (birth t.list (code_of q)) [] ∷ []) (sym its_opening) ∙ ap (λ (bs : List Birth). entry t.name (began t) bs ∷ []) (sym (ap births_of none)))));
    lists = its_lists;
    named = λ empty. some (sym names ∙ empty);
    opens = subst (λ (m : List ℕ). BeginsAsImage starts m t.opening) (sym names) (subst (λ (q : Process). BeginsAsImage starts name q) (sym its_opening) (opens p is));
    runs = runs_new files t none (its_state ∙ sym its_opening);
    goes = subst GoOn (sym none) refl;
  }

  -- it has no process
  why_ended : (v : View) (o : ProcessEnd) (journal : List JournalEntry) → journal ≡ [] → IsWhy s v o → (opening : Gv) × AsEnded files starts (list_at lists s.list) v o name opening journal
  why_ended v (outcome.Refused r) journal none why = (gnil, (none, (s, (i, named, at), why)))
  why_ended v outcome.Memory journal none why = (code_of why.0, ((why.0, why.0, refl, opens why.0 why.1, subst (λ (es : List JournalEntry). Replays why.0 0 0 (list_at lists s.list) es why.0) (sym none) refl, merely (why.0, subst (λ (es : List JournalEntry). ReplaysOver files why.0 0 0 (list_at lists s.list) es why.0) (sym none) refl)), subst GoOn (sym none) refl, (let long = ap (λ (es : List JournalEntry). length es) none in omega (arith, long))))
  why_ended v (outcome.Exited status) journal none why = absurd why
  why_ended v (outcome.Ended rule) journal none why = absurd why
  why_ended v outcome.JournalFull journal none why = absurd why

  pub unbegun_ended : (table : TableId) (slots taken : ℕ) (f : Finished) → IsUnbegun table slots taken s name f → (opening : Gv) × IsEnded table files lists starts (entry f.name.items (birth s.list opening) []) f
  unbegun_ended table slots taken f none =
      let why = why_ended (view_of f.seat) f.outcome f.journal.items none.journal none.why in (
        why.0,
        record {
          name = refl;
          children = ap births_of none.journal;
          seat = none.seat;
          bare = none.bare;
          ended = subst (λ (m : List ℕ). AsEnded files starts (list_at lists s.list) (view_of f.seat) f.outcome m why.0 f.journal.items) (sym none.named) why.1;
          few = let long = ap (λ (es : List JournalEntry). length es) none.journal in omega (arith, long);
        },
      )

-- the next start, where so many are left
module _ (starts plan : List Start) (same : starts ≡ plan) (r n : ℕ) (sum : r + n ≡ length starts) (lt : n < length starts) where
  pub next_number : n ≡ length plan - r
  next_number = let count : length starts ≡ length plan = ap length same in omega (arith, sum, lt, count)

  pub next_start : (d : Start) → slice_get plan (length plan - r) ≡ Some (get_or starts n d)
  next_start d =
      let here : slice_get starts n ≡ Some (get_or starts n d) = slice_get-get_or starts n d lt in
      subst (λ (k : ℕ). slice_get plan k ≡ Some (get_or starts n d)) next_number (subst (λ (ss : List Start). slice_get ss n ≡ Some (get_or starts n d)) same here)
