-- Lemmas for a step and the stale marks after it: reply, world (the model's state) and each TLB are the model's, only fills
-- add entries, and under policy `asid` no entry of a living process is stale on an unmarked hart (`true_after`).
use Rattle.std.proofs.Common.{◌≡◌, ℕ, List, Option, map, refl, ap, sym, subst, ◌∙◌}
use Rattle.process_model.specs.Process.{Process}
use Rattle.process_model.specs.Stale.{with_stale_slots}
use Rattle.process_model.specs.Steps as model
use Rattle.process_model.specs.Steps.{plain_step}
use Rattle.process_model.specs.World.{World}
use Rattle.process_model.specs.declared.config.Policy.{Policy}
use Rattle.process_model.specs.declared.config.Policy.TheVariants.{Asid, Full}
use Rattle.process_model.specs.declared.reply.Reply.{Reply}
use Rattle.process_model.specs.declared.step.Step.{Step}
use Rattle.hart_machine.specs.Buffers.{BuffersAre, OnlyFillsAdd, SameBuffers}
use Rattle.hart_machine.specs.Harts.{hart_of, marked_harts}
use Rattle.hart_machine.specs.Marks.{AreMarked}
use Rattle.hart_machine.specs.BufferEntries.{AreEntriesCurrent, IsInWorld}
use Rattle.hart_machine.specs.Worlds.{IsWorldButBuffers, KeepsTables, IsModelOutcome}
use Rattle.hart_machine.specs.declared.machine.Machine.{Machine}
use Rattle.hart_machine.proofs.BufferChanges.{only_fills_add}
use Rattle.hart_machine.proofs.Buffered.{are_true, still_in}
use Rattle.hart_machine.proofs.KeptPolicy.{policy_stays}
use Rattle.hart_machine.proofs.MarkedWorlds.{marks_follow}

-- m is the machine before the step, n after it, o and k with the marks
module _ (m n o k : Machine) (w : World) (s : Step) (inn : IsInWorld m w) (reply : Reply) (changed born : Option ℕ) (made : IsModelOutcome n reply (plain_step w s)) (marks : AreMarked w (plain_step w s) changed born)
    (keeps : KeepsTables m n w.slots ((plain_step w s).world).slots) (are : BuffersAre m n (inn.world).tables (inn.world).kernel s reply)
    (first : map hart_of o.harts.items ≡ marked_harts n.policy changed (map hart_of n.harts.items)) (first_buffers : SameBuffers n o) (first_others : o ≡ record n { harts = o.harts })
    (second : map hart_of k.harts.items ≡ marked_harts o.policy born (map hart_of o.harts.items)) (second_buffers : SameBuffers o k) (second_others : k ≡ record o { harts = k.harts }) where
  buffers : SameBuffers n k
  buffers h = second_buffers h ∙ first_buffers h

  ruled : k.policy ≡ n.policy
  ruled = ap (λ (x : Machine). x.policy) second_others ∙ ap (λ (x : Machine). x.policy) first_others

  as_before : n.policy ≡ w.policy
  as_before = made.1.policy ∙ policy_stays w s

  harts : map hart_of k.harts.items ≡ marked_harts n.policy born (marked_harts n.policy changed (map hart_of n.harts.items))
  harts = second ∙ ap (λ (q : Policy). marked_harts q born (map hart_of o.harts.items)) (ap (λ (x : Machine). x.policy) first_others) ∙ ap (marked_harts n.policy born) first

  in_world : IsWorldButBuffers k (with_stale_slots w.policy w (plain_step w s)).world
  in_world = marks_follow w (plain_step w s) changed born marks n k made.1 as_before harts buffers
      (ap (λ (x : Machine). x.frames) second_others ∙ ap (λ (x : Machine). x.frames) first_others) (ap (λ (x : Machine). x.kernel) second_others ∙ ap (λ (x : Machine). x.kernel) first_others)
      (ap (λ (x : Machine). x.slots) second_others ∙ ap (λ (x : Machine). x.slots) first_others) (ap (λ (x : Machine). x.files) second_others ∙ ap (λ (x : Machine). x.files) first_others) ruled

  as_first : k.policy ≡ m.policy
  as_first = ruled ∙ as_before ∙ sym (inn.world).policy

  keeps_after : KeepsTables m k w.slots ((plain_step w s).world).slots
  keeps_after = subst (λ (x : Machine). KeepsTables m x w.slots ((plain_step w s).world).slots) (sym (second_others ∙ ap (λ (x : Machine). let y : Machine = record x { harts = k.harts } in y) first_others))
      (record { many = keeps.many; kernel = keeps.kernel; leaves = keeps.leaves; frames = keeps.frames })

  same_slots : (q : Policy) → ((with_stale_slots q w (plain_step w s)).world).slots ≡ ((plain_step w s).world).slots
  same_slots Full = refl
  same_slots Asid = refl

  pub keeps_made : KeepsTables m k w.slots ((model.step w s).world).slots
  unfolding model.step
  keeps_made = subst (λ (after : List (Option Process)). KeepsTables m k w.slots after) (sym (same_slots w.policy)) keeps_after

  pub are_after : BuffersAre m k (inn.world).tables (inn.world).kernel s reply
  are_after h = buffers h ∙ are h

  pub in_after : IsInWorld k (model.step w s).world
  unfolding model.step
  in_after = still_in m k w s inn in_world as_first keeps_after reply made.0 are_after

  same_reply : (q : Policy) → (with_stale_slots q w (plain_step w s)).reply ≡ (plain_step w s).reply
  same_reply Full = refl
  same_reply Asid = refl

  pub made_after : (reply ≡ (model.step w s).reply) × IsInWorld k (model.step w s).world
  unfolding model.step
  made_after = (made.0 ∙ sym (same_reply w.policy), in_after)

  pub fills_alone : OnlyFillsAdd m k (inn.world).tables (inn.world).kernel s
  fills_alone = only_fills_add m k (inn.world).tables (inn.world).kernel s reply are_after

  pub true_after : w.policy ≡ Asid → AreEntriesCurrent k
  true_after asid = are_true k (model.step w s).world in_after (as_first ∙ (inn.world).policy ∙ asid)
