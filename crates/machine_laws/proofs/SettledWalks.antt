-- Lemmas: a fence settles a hart's pages under policy `full` (`fence_settles`); a step that leaves satp and the tables leaves them settled
-- (`step_settles`); and a settled page has the machine's walk as its one outcome (`settled_is_walk`).
use Rattle.std.proofs.Common.{◌≡◌, ◌↔◌, ℕ, ◌+◌, ◌*◌, ◌<◌, not, ◌&&◌, true, false, refl, sym, ap, subst, ◌∙◌, arith, Option, None, Some, List, [], ◌∷◌}
use Rattle.std.proofs.lemmas.Bool.{eq-eqb}
use Rattle.std.specs.FinMap.{get}
use Rattle.std.specs.Prelude.{slice_get}
use Rattle.access_history.specs.History.{First, memory_at, satp_at}
use Rattle.access_history.specs.Permits.{Past, Permits}
use Rattle.access_history.specs.declared.event.Event.{Event}
use Rattle.access_history.specs.declared.event.Event.TheVariants.{Fence}
use Rattle.access_history.specs.declared.outcome.Outcome.{Outcome}
use Rattle.access_history.specs.declared.outcome.Request.{Request}
use Rattle.hart_machine.proofs.SeenWords.{tables_seen}
use Rattle.hart_machine.specs.BufferEntries.{IsInWorld}
use Rattle.hart_machine.specs.Buffers.{is_about}
use Rattle.hart_machine.specs.Tables.{present_table, tables_of}
use Rattle.hart_machine.specs.declared.hart.Hart.{Hart}
use Rattle.hart_machine.specs.declared.machine.Machine.{Machine}
use Rattle.hart_tlb.proofs.Outcomes.{answer_translates}
use Rattle.history_laws.proofs.PlainOutcomes.{same_outcomes}
use Rattle.history_laws.proofs.PlainReads.{own_satp, read_of_held}
use Rattle.history_laws.specs.PlainWalks.{IsPlainAccess, IsPlainHart, IsSettled, extent_of, fenced, fresh, outcome_of, quiet}
use Rattle.machine_laws.proofs.FencedRuns.{fenced_keeps}
use Rattle.machine_laws.proofs.MachineAnswers.{is_plain, leads, fresh_outcome}
use Rattle.machine_laws.proofs.SettledStores.{settled_stores, settled_written}
use Rattle.machine_laws.proofs.StepHistories.{many_words, root_at, walkable}
use Rattle.machine_laws.proofs.StoredWords.{word_there}
use Rattle.machine_laws.specs.HartHistories.{HasHistory}
use Rattle.machine_laws.specs.MachineEvents.{after_step, fenced_on, satp_written, stores}
use Rattle.machine_laws.specs.MachineStates.{root_in, satp_on}
use Rattle.machine_laws.specs.SettledTables.{HaveSameTables}
use Rattle.process_laws.proofs.StepReplies.{step_suits}
use Rattle.process_model.specs.Harts.{is_before_fence}
use Rattle.process_model.specs.Steps.{is_refused, step}
use Rattle.process_model.specs.World.{World}
use Rattle.process_model.specs.declared.config.Policy.{Policy}
use Rattle.process_model.specs.declared.config.Policy.TheVariants.{Full}
use Rattle.process_model.specs.declared.reply.Reply.{Reply}
use Rattle.process_model.specs.declared.step.Step.{Step}
use Rattle.process_model.specs.declared.step.Step.TheVariants as step_of
use Rattle.sv39_entry.specs.Address.{page_of}
use Rattle.sv39_entry.specs.Satp.{root_ppn}
use Rattle.sv39_entry.specs.declared.access.Mode.{Mode}
use Rattle.sv39_entry.specs.declared.scheme.Scheme.{Scheme}
use Rattle.table_walk.proofs.Outcomes.{one_translation}
use Rattle.table_walk.specs.Leaves.{leaf_at, walk_answer}
use Rattle.table_walk.specs.Tables.{Tables}
use Rattle.table_walk.specs.Walk.{Translates}
use Rattle.table_walk.specs.declared.walk.Walk.{Walk}
use Rattle.walk_rules.specs.declared.extensions.AdScheme.TheVariants.{Svade}
use Rattle.walk_rules.specs.declared.extensions.Extensions.{Extensions}

-- ---- a fence

pub fence_settles : (old new : Machine) (x : Hart) (reply : Reply) (k page : ℕ) (f : First) (h : List Event) → old.policy ≡ Full → slice_get old.harts.items k ≡ Some x
    → is_before_fence x.phase ≡ true → is_refused reply ≡ false → IsSettled f old.kernel.scheme page (after_step old new (step_of.Next k) reply k h)
fence_settles old new x reply k page f h full at before made =
    let late : List Event = satp_written (satp_on old k) (satp_on new k) (stores 0 old.frames.words new.frames.words h) in
    let self = eq-eqb k k refl in
    let about : (not (is_refused reply) && is_about (step_of.Next k) k) ≡ true = rw (made, self) refl in
    let by : fenced_on (Some x) (step_of.Next k) reply k Full late ≡ Fence None None ∷ late = rw (about, before) refl in
    subst (λ (o : Option Hart). IsSettled f old.kernel.scheme page (fenced_on o (step_of.Next k) reply k old.policy late)) (sym at)
    (subst (λ (policy : Policy). IsSettled f old.kernel.scheme page (fenced_on (Some x) (step_of.Next k) reply k policy late)) (sym full)
    (subst (IsSettled f old.kernel.scheme page) (sym by) (fresh fenced)))

-- ---- a step that leaves the tables

module _ (old new : Machine) (w : World) (s : Step) (reply : Reply) (k page : ℕ) (x : Hart) (f : First) (h : List Event) (is : IsInWorld old w)
    (after : IsInWorld new (step w s).world) (at : slice_get old.harts.items k ≡ Some x) (has : HasHistory old k f h) (satp : satp_on new k ≡ satp_on old k)
    (same : HaveSameTables (tables_of (is.world).tables (is.world).kernel (present_table x)) old new) where
  abbrev tables : Tables
  tables = tables_of (is.world).tables (is.world).kernel (present_table x)

  abbrev z : Scheme
  z = old.kernel.scheme

  same_words : (n frame i : ℕ) → get tables.tables n ≡ Some frame → i < 512 → slice_get new.frames.words (frame * 512 + i) ≡ slice_get old.frames.words (frame * 512 + i)
  same_words n frame i there low =
      let small = ((walkable old w is.world k x at).tables.known.below n frame there).2 in
      sym (word_there new.frames.words frame i small low) ∙ same n frame i there low ∙ word_there old.frames.words frame i small low

  pub step_settles : IsSettled f z page h → IsSettled f z page (after_step old new s reply k h)
  step_settles settled =
      let one = many_words old w is.world in
      let two = many_words new (step w s).world after.world in
      let frames = (step_suits w s).memory in
      let sized = one.0 in
      let few = one.1 in
      let resized = two.0 in
      let walk = walkable old w is.world k x at in
      let are = tables_seen old.frames walk.view walk.fits z (root_in old x) tables walk.tables in
      fenced_keeps (IsSettled f z page) (λ va space l kept. quiet kept (record { satp = refl; words = λ n table low way. refl })) (slice_get old.harts.items k) s reply k old.policy _
      (settled_written f z page (satp_on old k) (satp_on new k) _ satp
      (settled_stores f z page (root_in old x) tables old.frames.words new.frames.words are same_words [] old.frames.words new.frames.words 0 h refl refl (omega (arith, sized, few))
      (omega (arith, sized, resized, frames)) (λ n frame i there low. refl) has.memory (root_at old w is.world k x at f h has) settled))

-- ---- a settled page

module _ (m : Machine) (w : World) (k : ℕ) (x : Hart) (f : First) (h : List Event) (is : IsInWorld m w) (at : slice_get m.harts.items k ≡ Some x) (has : HasHistory m k f h)
    (have : Extensions) (q : Request) (mode : Mode) (plain : IsPlainHart have) (svade : have.ad ≡ Svade) (plainly : IsPlainAccess q mode)
    (settled : IsSettled f m.kernel.scheme (page_of q.va.0) h) where
  abbrev past : Past
  past = record { first = f; events = h }

  abbrev answer_now : Walk
  answer_now = walk_answer m.kernel.scheme (tables_of (is.world).tables (is.world).kernel (present_table x)) q.va.0 q.kind mode

  abbrev Comes : Walk → Type 0
  Comes walk = Translates m.kernel.scheme (memory_at f.memory h) (extent_of (memory_at f.memory h)) (root_ppn (satp_at f.satp h)) q.va.0 q.kind mode walk

  comes : Comes answer_now
  comes =
      answer_translates m.kernel.scheme (memory_at f.memory h) (extent_of (memory_at f.memory h)) (root_ppn (satp_at f.satp h)) q.va.0 q.kind mode q.va.0
      (leaf_at m.kernel.scheme (tables_of (is.world).tables (is.world).kernel (present_table x)) q.va.0) false refl
      (fresh_outcome m w k x f h is at has have q mode plain plainly).shown (leads m w k x f h is at has have q mode plain plainly _)

  pub settled_is_walk : (o : Outcome) → Permits have past q o ↔ (o ≡ outcome_of answer_now)
  settled_is_walk o =
      let p = is_plain m w k x f h is at has have q mode plain plainly in
      let same = same_outcomes have plain past has.unprotected q mode plainly m.kernel.scheme p.scheme svade
      (record {
        read = λ since r held serves. read_of_held have plain f q.va.0 m.kernel.scheme h since r p.scheme settled held;
        own = λ satp under same. own_satp f m.kernel.scheme (page_of q.va.0) satp h settled under;
      }) o in (
        (λ permitted.
            let walk = same.0 permitted in
            walk.2 ∙ ap outcome_of (one_translation m.kernel.scheme (memory_at f.memory h) (root_ppn (satp_at f.satp h)) q.va.0 (extent_of (memory_at f.memory h)) q.kind mode walk.0 answer_now walk.1 comes)),
        (λ is_walk. same.1 (answer_now, comes, is_walk)),
      )
