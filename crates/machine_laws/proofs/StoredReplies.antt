-- Lemma `store_kept`: a store that was made goes to a physical address that the standard permits, and memory then has its value there.
use Rattle.std.proofs.Common.{◌≡◌, ℕ, ◌*◌, ◌/◌, ◌%◌, ◌^◌, Bool, true, false, refl, sym, ap, subst, ◌∙◌, arith, Option, None, Some, List}
use Rattle.std.proofs.lemmas.Option.{same_Some, slice_get_within}
use Rattle.std.specs.Prelude.{is_some, slice_get, slice_set}
use Rattle.access_history.specs.History.{First}
use Rattle.access_history.specs.Permits.{Permits}
use Rattle.access_history.specs.declared.event.Event.{Event}
use Rattle.access_history.specs.declared.outcome.Outcome.{Outcome}
use Rattle.access_history.specs.declared.outcome.Outcome.TheVariants.{Granted}
use Rattle.address_space.proofs.UserAnswers as answers
use Rattle.address_space.specs.Agreement.{IsFrameOfPage, one_frame}
use Rattle.frame_store.specs.Seats.{place_set_same}
use Rattle.hart_machine.proofs.HartSteps.{process_at}
use Rattle.hart_machine.proofs.SeenWords.{there_is}
use Rattle.hart_machine.specs.BufferEntries.{IsInWorld}
use Rattle.hart_machine.specs.Harts.{hart_of}
use Rattle.hart_machine.specs.SlotProcesses.{IsSlotProcess}
use Rattle.hart_machine.specs.Worlds.{KeepsTables}
use Rattle.hart_machine.specs.declared.hart.Hart.{Hart}
use Rattle.hart_machine.specs.declared.machine.Machine.{Machine}
use Rattle.hart_machine.specs.declared.slot_process.SlotProcess.{SlotProcess}
use Rattle.history_laws.specs.PlainWalks.{IsPlainHart}
use Rattle.machine_laws.proofs.StoredValues.{read_back}
use Rattle.machine_laws.proofs.StoredWords.{named}
use Rattle.machine_laws.proofs.UserReplies.{IsMade, WasStored, is_made, on_frame, on_page, page_value, permitted, step_reply, was_stored, whole_page}
use Rattle.machine_laws.specs.HartHistories.{HasHistory}
use Rattle.machine_laws.specs.MachineStates.{memory_in}
use Rattle.machine_laws.specs.UserAccesses.{user_request, value_at}
use Rattle.process_model.specs.Bytes.{low_bytes}
use Rattle.process_model.specs.Harts as model
use Rattle.process_model.specs.Insertion.{inserted_here}
use Rattle.process_model.specs.PageMap as pages
use Rattle.process_model.specs.Process.{Page, Process}
use Rattle.process_model.specs.Residence.{stored}
use Rattle.process_model.specs.Service.{AccessRequest, Answer, access_outcome, access_outcome_if, access_step, is_fault, user_access}
use Rattle.process_model.specs.Stale.{with_stale_slots}
use Rattle.process_model.specs.Steps.{is_refused, plain_step, step}
use Rattle.process_model.specs.World.{StepOutcome, World, flat}
use Rattle.process_model.specs.declared.config.Policy.{Policy}
use Rattle.process_model.specs.declared.config.Policy.TheVariants.{Full, Asid}
use Rattle.process_model.specs.declared.reply.Reply.TheVariants.{Scalar}
use Rattle.process_model.specs.declared.reply.ScalarReply.TheVariants.{Stored}
use Rattle.process_model.specs.declared.step.Step.{Step}
use Rattle.process_model.specs.declared.step.Step.TheVariants as step_of
use Rattle.sv39_entry.specs.Address.{page_of}
use Rattle.sv39_entry.specs.Frame.{ppn_of}
use Rattle.sv39_entry.specs.declared.access.Access.TheVariants.{Store}
use Rattle.walk_rules.specs.declared.extensions.Extensions.{Extensions}
use Rattle.walk_rules.specs.declared.memory_type.MemoryType.TheVariants.{Pma}

-- ---- the slots after an access

same_slots : (policy : Policy) (w : World) (o : StepOutcome) → ((with_stale_slots policy w o).world).slots ≡ (o.world).slots
same_slots Full w o = refl
same_slots Asid w o = refl

step_slots : (w : World) (s : Step) → ((step w s).world).slots ≡ ((plain_step w s).world).slots
unfolding step
step_slots w s = same_slots w.policy w (plain_step w s)

access_slots : (w : World) (h : ℕ) (hart : model.Hart) (s : ℕ) (x : Answer) → ((access_outcome w h hart s x).world).slots ≡ slice_set w.slots s (Some x.process)
access_slots w h hart s x = go (is_fault x.reply) where
  go : (b : Bool) → ((access_outcome_if w h hart s x b).world).slots ≡ slice_set w.slots s (Some x.process)
  go true = refl
  go false = refl

module _ (old new : Machine) (w : World) (k address width value : ℕ) (via : Option ℕ) (x : Hart) (f : First) (h : List Event) (is : IsInWorld old w) where
  abbrev made_step : Step
  made_step = step_of.Store k address width value via

  abbrev a : AccessRequest
  a = record { access = Store; address = address; width = width; value = value }

  abbrev made : StepOutcome
  made = access_step w k Store address width value via

  module _ (after : IsInWorld new (step w made_step).world) (tables : KeepsTables old new w.slots ((step w made_step).world).slots) (at : slice_get old.harts.items k ≡ Some x)
      (has : HasHistory old k f h) (have : Extensions) (plain : IsPlainHart have) (done : (step w made_step).reply ≡ Scalar Stored) where
    replied : made.reply ≡ Scalar Stored
    replied = sym (step_reply w made_step) ∙ done

    so : IsMade old w is k x a made
    so = is_made old w is k x at a via (ap is_refused replied)

    by : WasStored old w is k x a made so
    by = was_stored old w is k x a made so replied

    abbrev n : ℕ
    n = page_of address

    abbrev q : Process
    q = (user_access so.process a).process

    abbrev page : Page
    page = stored by.granted.page (address % 4096) (low_bytes value width)

    slots : ((step w made_step).world).slots ≡ slice_set w.slots so.slot (Some q)
    slots = step_slots w made_step ∙ ap (λ (o : StepOutcome). (o.world).slots) so.comes ∙ access_slots w k (hart_of x) so.slot (user_access so.process a)

    now_in : slice_get ((step w made_step).world).slots so.slot ≡ Some (Some q)
    now_in = ap (λ (ps : List (Option Process)). slice_get ps so.slot) slots ∙ place_set_same w.slots so.slot (Some q) (slice_get_within w.slots so.slot (Some so.process) so.at_slot)

    place : (y : SlotProcess) × (slice_get new.slots.items so.slot ≡ Some (Some y))
    place = there_is (slice_get new.slots.items so.slot) (slice_get ((step w made_step).world).slots so.slot) ((after.world).tables so.slot) ((after.world).places so.slot)
        (ap (λ (o : Option (Option Process)). is_some (flat o)) now_in)

    is_process : IsSlotProcess place.0 ((after.world).tables so.slot) q
    is_process =
        let found = process_at new (step w made_step).world after.world so.slot place.0 place.1 in
        subst (λ (p : Process). IsSlotProcess place.0 ((after.world).tables so.slot) p) (same_Some found.0 q (same_Some _ _ (sym found.1 ∙ now_in))) found.2

    settled : pages.get q.settled n ≡ Some page
    settled = ap (λ (b : Answer). pages.get (b.process).settled n) (answers.answers_store _ _ _ _ _ so.process so.agrees a by.whole by.pa by.granted refl)
        ∙ inserted_here n page so.process.settled n refl

    -- the page stays on its frame
    frame_now : (frame : ℕ) → IsFrameOfPage ((after.world).tables so.slot) n frame → by.pa / 4096 ≡ ppn_of frame
    frame_now frame on =
        let was = (tables.frames so.slot so.place place.0 so.process q ((is.world).tables so.slot) ((after.world).tables so.slot) so.there place.1 so.at_slot now_in so.slot_process is_process).pages n frame
        by.granted.page page by.granted.can.settled settled refl on in
        named (by.pa / 4096) (record { 0 = by.granted.frame }) by.granted.framed ∙ ap ppn_of (one_frame ((is.world).tables so.slot) n by.granted.frame frame by.granted.on was)

    kept : value_at (memory_in new) by.pa width ≡ Some (value % 2 ^ (8 * width))
    kept =
        let m = (after.world) in
        let on = on_frame new (step w made_step).world m so.slot place.0 place.1 q is_process.agrees n page settled in
        let long = whole_page old w is.world so.slot so.place so.there so.process so.agrees n by.granted.page by.granted.can.settled in
        page_value new (step w made_step).world m so.slot place.0 place.1 q is_process.agrees n page settled _ by.pa (address % 4096) width on (frame_now _ on) by.offset (omega arith) so.wide
        (on_page width so.wide address by.whole) ∙ ap Some (read_back by.granted.page.bytes (address % 4096) value width (omega (arith, long)))

    pub store_kept : (pa : ℕ) × Permits have (record { first = f; events = h }) (user_request Store address width) (Granted pa Pma None) × (value_at (memory_in new) pa width ≡ Some (value % 2 ^ (8 * width)))
    store_kept = (
      by.pa,
      subst (λ (o : Outcome). Permits have (record { first = f; events = h }) (user_request Store address width) o) by.walked (permitted old w is k x a made so f h at has have plain by.whole),
      kept,
    )
