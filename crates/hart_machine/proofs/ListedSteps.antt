-- Lemmas for `Machine::run`: replies, world (the model's state) and TLBs after some steps of a list (`HasRun`), after one
-- more, and after all.
use Rattle.std.proofs.Common.{◌≡◌, ℕ, ◌<◌, ◌≤◌, ◌+◌, get_or, length, drop, List, [], ◌∷◌, ◌++◌, ap, refl, sym, subst, ◌∙◌}
use Rattle.std.proofs.lemmas.List.{append-nil, append_assoc, at_drop_more, drop_all}
use Rattle.process_model.specs.Stale.{with_stale_slots}
use Rattle.process_model.specs.Steps.{plain_step, run, step}
use Rattle.process_model.specs.World.{StepOutcome, World}
use Rattle.process_model.specs.declared.config.Policy.{Policy}
use Rattle.process_model.specs.declared.reply.Reply.{Reply}
use Rattle.process_model.specs.declared.step.Step.{Step}
use Rattle.process_model.specs.declared.config.Policy.TheVariants.{Asid, Full}
use Rattle.hart_machine.specs.Buffers.{BuffersAre}
use Rattle.hart_machine.specs.Runs.{BuffersFollow}
use Rattle.hart_machine.specs.BufferEntries.{AreEntriesCurrent, IsInWorld}
use Rattle.hart_machine.specs.Worlds.{KeepsTables}
use Rattle.hart_machine.specs.declared.machine.Machine.{Machine}
use Rattle.hart_machine.proofs.Buffered.{are_true}
use Rattle.hart_machine.proofs.KeptPolicy.{policy_stays}

-- lists of steps: some of them were made, from the machine `first` on, and from the world that they came to the others answer the rest
pub record HasRun (first m : Machine) (all left : List Step) (replies : List Reply) (w : World) : Type 0 where
  pub world : World
  pub is_in : IsInWorld m world
  pub replied : (run w all).replies ≡ replies ++ (run world left).replies
  pub comes_to : (run w all).world ≡ (run world left).world
  pub ruled : world.policy ≡ w.policy
  pub buffers : (new : Machine) → BuffersFollow m world left new → BuffersFollow first w all new

marks_policy : (policy : Policy) (w : World) (o : StepOutcome) → ((with_stale_slots policy w o).world).policy ≡ (o.world).policy
marks_policy Full w o = refl
marks_policy Asid w o = refl

step_policy : (w : World) (s : Step) → ((step w s).world).policy ≡ w.policy
unfolding step
step_policy w s = marks_policy w.policy w (plain_step w s) ∙ policy_stays w s

-- one more
pub one_more : (first m n : Machine) (all rest : List Step) (s : Step) (replies : List Reply) (reply : Reply) (w : World) → HasRun first m all (s ∷ rest) replies w
    → ((v : World) → IsInWorld m v → (reply ≡ (step v s).reply) × IsInWorld n (step v s).world) → ((v : World) → IsInWorld m v → KeepsTables m n v.slots ((step v s).world).slots) → ((v : World) (is : IsInWorld m v) → BuffersAre m n (is.world).tables (is.world).kernel s reply)
    → HasRun first n all rest (replies ++ reply ∷ []) w
one_more first m n all rest s replies reply w has makes keeps are =
    let made = makes has.world has.is_in in
    record {
      ruled = step_policy has.world s ∙ has.ruled;
      buffers = λ new k. has.buffers new (n, made.1, keeps has.world has.is_in, (λ is. subst (λ (r : Reply). BuffersAre m n (is.world).tables (is.world).kernel s r) made.0 (are has.world is)), k);
      world = (step has.world s).world;
      is_in = made.1;
      replied = has.replied ∙ ap (λ r. replies ++ r ∷ (run (step has.world s).world rest).replies) (sym made.0) ∙ sym (append_assoc replies (reply ∷ []) _);
      comes_to = has.comes_to;
    }

-- all of them
pub all_run : (first m : Machine) (all : List Step) (replies : List Reply) (w : World) → HasRun first m all [] replies w → (replies ≡ (run w all).replies) × IsInWorld m (run w all).world
all_run first m all replies w has = (sym (has.replied ∙ append-nil replies), subst (λ (v : World). IsInWorld m v) (sym has.comes_to) has.is_in)

-- the buffers, and what they tell
pub run_buffers : (first m : Machine) (all : List Step) (replies : List Reply) (w : World) → HasRun first m all [] replies w → BuffersFollow first w all m
run_buffers first m all replies w has = has.buffers m refl

pub run_true : (first m : Machine) (all : List Step) (replies : List Reply) (w : World) → HasRun first m all [] replies w → w.policy ≡ Asid → AreEntriesCurrent m
run_true first m all replies w has asid = are_true m has.world has.is_in ((has.is_in).world.policy ∙ has.ruled ∙ asid)

-- what is left begins with the step that is next
pub next_left : (first m : Machine) (all : List Step) (i : ℕ) (s : Step) (replies : List Reply) (w : World) → i < length all → s ≡ get_or all i s
    → HasRun first m all (drop i all) replies w → HasRun first m all (s ∷ drop (i + 1) all) replies w
next_left first m all i s replies w within read has =
    subst (λ (left : List Step). HasRun first m all left replies w) (at_drop_more (λ left. left) all i s within ∙ ap (λ x. x ∷ drop (i + 1) all) (sym read)) has

-- and at the end nothing
pub none_left : (first m : Machine) (all : List Step) (i : ℕ) (replies : List Reply) (w : World) → length all ≤ i → HasRun first m all (drop i all) replies w → HasRun first m all [] replies w
none_left first m all i replies w past has = subst (λ (left : List Step). HasRun first m all left replies w) (drop_all i all past) has
