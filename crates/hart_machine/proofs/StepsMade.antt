-- Lemmas: what a machine's step is known to do (outcome, slots to be marked as stale, page tables kept) holds of any step
-- equal to it; and a step that changes no leaf names no slot (`quiet_marks`).
use Rattle.std.proofs.Common.{◌≡◌, ℕ, true, None, Option, sym, subst}
use Rattle.process_model.specs.Steps.{plain_step}
use Rattle.process_model.specs.World.{World}
use Rattle.process_model.specs.declared.reply.Reply.{Reply}
use Rattle.process_model.specs.declared.step.Step.{Step}
use Rattle.hart_machine.specs.Marks.{AreMarked}
use Rattle.hart_machine.specs.Worlds.{KeepsTables, IsModelOutcome}
use Rattle.hart_machine.specs.declared.machine.Machine.{Machine}
use Rattle.hart_machine.proofs.StepShapes.{is_quiet, quiet_slots}

-- what is told of a step is told of the one that it is

pub made_by : (n : Machine) (reply : Reply) (w : World) (s t : Step) → t ≡ s → IsModelOutcome n reply (plain_step w s) → IsModelOutcome n reply (plain_step w t)
made_by n reply w s t same made = subst (λ (x : Step). IsModelOutcome n reply (plain_step w x)) (sym same) made

pub marked_by : (w : World) (s t : Step) → t ≡ s → (changed born : Option ℕ) → AreMarked w (plain_step w s) changed born → AreMarked w (plain_step w t) changed born
marked_by w s t same changed born marks = subst (λ (x : Step). AreMarked w (plain_step w x) changed born) (sym same) marks

pub keeps_by : (m n : Machine) (w : World) (s t : Step) → t ≡ s → KeepsTables m n w.slots ((plain_step w s).world).slots → KeepsTables m n w.slots ((plain_step w t).world).slots
keeps_by m n w s t same keeps = subst (λ (x : Step). KeepsTables m n w.slots ((plain_step w x).world).slots) (sym same) keeps

-- a quiet step marks none
pub quiet_marks : (w : World) (s t : Step) → t ≡ s → is_quiet s ≡ true → AreMarked w (plain_step w t) None None
quiet_marks w s t same quiet = marked_by w s t same None None (λ n. quiet_slots w s quiet n)
