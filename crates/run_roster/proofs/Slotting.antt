-- Lemmas on slots: ends with and without a process keep the rule for slots and counts (`MatchesSlots`), the unfinished starts
-- took free slots (`AreTaken`) at each roster step, and one refused with SharersFull is known (`full_first`, `full_rest`).
use Rattle.std.proofs.Common.{◌≡◌, inl, inr, ℕ, ◌<◌, Bool, true, false, List, [], ◌∷◌, ◌++◌, Option, Some, length, slice_get, take, refl, sym, ap, ◌∙◌, subst}
use Rattle.atomic_table.specs.Seated.{TableId}
use Rattle.frame_store.specs.View.{View}
use Rattle.hart_calls.specs.declared.journal_entry.JournalEntry.{JournalEntry}
use Rattle.hart_calls.specs.declared.finished.Finished.{Finished}
use Rattle.run_roster.specs.Names.{first_of, no_start}
use Rattle.run_roster.specs.StartEffects.{all_looks, any_full, fulls, has_any, IsFullKnown, IsUnbegun, IsWhy, looks_of}
use Rattle.run_roster.specs.Settled.{MatchesSlots}
use Rattle.run_roster.specs.Slots.{AreTaken, count, FindsSlot, IsTaken, KeepsSlots, OnFull, Takes, Unrefused}
use Rattle.run_roster.specs.StartFrames.{LeftTooFew, OnNoFrame}
use Rattle.run_roster.specs.declared.start_result.StartResult.{StartResult}
use Rattle.run_roster.specs.declared.start_result.StartResult.TheVariants as made
use Rattle.process_model.specs.declared.call.ProcessEnd.{ProcessEnd}
use Rattle.process_model.specs.declared.call.ProcessEnd.TheVariants as outcome
use Rattle.process_model.specs.declared.call.Start.{Start}
use Rattle.process_model.specs.declared.reply.Refusal.TheVariants as refusal
use Rattle.shared_frames.specs.SeatsOfTable.{view_of}
use Rattle.vouchers.specs.Entries.{Birth, TokenEntry as Life, entry, Has, nameless, without}
use Rattle.vouchers.specs.Lists.{without_had}

-- a process that began had a slot

finds_free : (slots n : ℕ) (o : ProcessEnd) → Unrefused o → n < slots → FindsSlot slots n o
finds_free slots n (outcome.Exited status) began lt = lt
finds_free slots n (outcome.Ended rule) began lt = lt
finds_free slots n (outcome.Refused r) began lt = absurd began
finds_free slots n outcome.Memory began lt = lt
finds_free slots n outcome.JournalFull began lt = lt

takes_one : (slot : Option Bool) (o : ProcessEnd) (journal : List JournalEntry) → Unrefused o → slot ≡ Some true → Takes slot o journal
takes_one slot (outcome.Refused r) journal began is = absurd began
takes_one slot (outcome.Exited status) [] began is = tt
takes_one slot (outcome.Exited status) (e ∷ es) began is = is
takes_one slot (outcome.Ended rule) [] began is = tt
takes_one slot (outcome.Ended rule) (e ∷ es) began is = is
takes_one slot outcome.Memory [] began is = tt
takes_one slot outcome.Memory (e ∷ es) began is = is
takes_one slot outcome.JournalFull [] began is = tt
takes_one slot outcome.JournalFull (e ∷ es) began is = is

not_full : (full : Type 0) (o : ProcessEnd) → Unrefused o → OnFull full o
not_full full (outcome.Refused r) began = absurd began
not_full full o began = tt

not_dry : (lacks : Type 0) (o : ProcessEnd) → Unrefused o → OnNoFrame lacks o
not_dry lacks (outcome.Refused r) began = absurd began
not_dry lacks o began = tt

pub began_settled : (starts : List Start) (slots : ℕ) (taken : List Bool) (full : Bool) (free : ℕ) (f : Finished) → Unrefused f.outcome → ((i : ℕ) → f.name.items ≡ i ∷ [] → IsTaken slots taken i) → MatchesSlots starts slots taken full free f
began_settled starts slots taken full free f began all = record {
  slot = λ i is. let t = all i is in record { finds = finds_free slots (count (take i taken)) f.outcome began t.0; takes = takes_one (slice_get taken i) f.outcome f.journal.items began t.1 };
  reads = not_full (full ≡ true) f.outcome began;
  frames = λ i is. not_dry (LeftTooFew free starts taken i) f.outcome began;
}

-- a start without a process took none

takes_none : (slot : Option Bool) (s : Start) (v : View) (o : ProcessEnd) (journal : List JournalEntry) → IsWhy s v o → journal ≡ [] → slot ≡ Some false → Takes slot o journal
takes_none slot s v (outcome.Refused r) journal why none is = is
takes_none slot s v outcome.Memory [] why none is = tt
takes_none slot s v outcome.Memory (e ∷ es) why none is = absurd (let no : e ∷ es ≡ [] = none in cc)
takes_none slot s v (outcome.Exited status) journal why none is = absurd why
takes_none slot s v (outcome.Ended rule) journal why none is = absurd why
takes_none slot s v outcome.JournalFull journal why none is = absurd why

pub unbegun_settled : (table : TableId) (starts : List Start) (slots : ℕ) (taken : List Bool) (full : Bool) (free : ℕ) (i : ℕ) (s : Start) (f : Finished) → IsUnbegun table slots (count (take i taken)) s (i ∷ []) f → slice_get taken i ≡ Some false → OnFull (full ≡ true) f.outcome → OnNoFrame (LeftTooFew free starts taken i) f.outcome → MatchesSlots starts slots taken full free f
unbegun_settled table starts slots taken full free i s f none is on dry = record { slot = here; reads = on; frames = λ j named. subst (λ (k : ℕ). OnNoFrame (LeftTooFew free starts taken k) f.outcome) (same j named) dry }
  where
    same : (j : ℕ) → f.name.items ≡ j ∷ [] → i ≡ j
    same j named = ap first_of (sym none.named ∙ named)

    here : (j : ℕ) → f.name.items ≡ j ∷ [] → KeepsSlots slots taken j f
    here j named = subst (λ (k : ℕ). KeepsSlots slots taken k f) (same j named) record { finds = none.finds; takes = takes_none (slice_get taken i) s (view_of f.seat) f.outcome f.journal.items none.why none.journal is }

-- who is out

pub taken_more : (slots : ℕ) (taken : List Bool) (e : Life) (out : List Life) → ((i : ℕ) → e.name ≡ i ∷ [] → IsTaken slots taken i) → AreTaken slots taken out → AreTaken slots taken (e ∷ out)
taken_more slots taken e out new was l i (inl same) is = new i (sym (ap (λ (x : Life). x.name) same) ∙ is)
taken_more slots taken e out new was l i (inr h) is = was l i h is

pub taken_less : (slots : ℕ) (taken : List Bool) (e : Life) (out : List Life) → AreTaken slots taken out → AreTaken slots taken (without e out)
taken_less slots taken e out was l i h is = was l i (without_had e l out h) is

-- a child is named: both vouchers come back, and the child's and the parent's go out
module _ (name named : List ℕ) (began child : Birth) (before children none : List Birth) (g0 g1 g2 g3 g4 : List Life) (e1 : g1 ≡ without nameless g0) (e2 : g2 ≡ without (entry name began before) g1) (mine : Has (entry name began before) g1) (is : named ≡ name ++ length before ∷ []) (some : name ≡ [] → ⊥) (e3 : g3 ≡ entry named child none ∷ g2) (e4 : g4 ≡ entry name began children ∷ g3) where
  pub taken_born : (slots : ℕ) (taken : List Bool) → AreTaken slots taken g0 → AreTaken slots taken g4
  taken_born slots taken was =
      let kept : AreTaken slots taken g1 = subst (AreTaken slots taken) (sym e1) (taken_less slots taken nameless g0 was) in
      let others : AreTaken slots taken g2 = subst (AreTaken slots taken) (sym e2) (taken_less slots taken (entry name began before) g1 kept) in
      let young : AreTaken slots taken g3 = subst (AreTaken slots taken) (sym e3) (taken_more slots taken (entry named child none) g2 (λ i of. absurd (no_start name (length before) i some (sym is ∙ of))) others) in
      subst (AreTaken slots taken) (sym e4) (taken_more slots taken (entry name began children) g3 (λ i of. kept (entry name began before) i mine of) young)

-- counts that were read as 65,535

full_at : (full : Bool) (o : ProcessEnd) (rest : List ℕ) → (has_any (fulls o ++ rest) ≡ true → full ≡ true) → OnFull (full ≡ true) o
full_at full (outcome.Refused refusal.SharersFull) rest told = told refl
full_at full o rest told = tt

-- the first of some starts knows of it
pub full_first : (full : Bool) (m : StartResult) (ms : List StartResult) → (any_full (m ∷ ms) ≡ true → full ≡ true) → IsFullKnown full m
full_first full (made.Begun name space opening) ms told = tt
full_first full (made.Over f) ms told = full_at full f.outcome (all_looks ms) told

any_right : (xs ys : List ℕ) → has_any ys ≡ true → has_any (xs ++ ys) ≡ true
any_right [] ys is = is
any_right (x ∷ xs) ys is = refl

-- and so do the others
pub full_rest : (full : Bool) (m : StartResult) (ms : List StartResult) → (any_full (m ∷ ms) ≡ true → full ≡ true) → any_full ms ≡ true → full ≡ true
full_rest full m ms told is = told (any_right (looks_of m) (all_looks ms) is)
