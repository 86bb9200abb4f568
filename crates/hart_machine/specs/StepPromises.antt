-- What a step of a machine promises, by the model's step: reply and world (`MakesStep`), which tables stay (`KeepsTablesOf`),
-- which slots, places in the process table, are to be marked as stale (`MarksStep`).
use Rattle.std.specs.Prelude.{ℕ, Option}
use Rattle.process_model.specs.Steps.{plain_step}
use Rattle.process_model.specs.World.{World}
use Rattle.process_model.specs.declared.reply.Reply.{Reply}
use Rattle.process_model.specs.declared.step.Step.{Step}
use Rattle.hart_machine.specs.Marks.{AreMarked}
use Rattle.hart_machine.specs.Worlds.{IsModelOutcome, IsWorldButBuffers, KeepsTables}
use Rattle.hart_machine.specs.declared.machine.Machine.{Machine}

-- the reply is the model's, and the new machine is in the world after the model's step
abbrev pub MakesStep : Machine → Machine → Step → Reply → Type 0
MakesStep old new step reply = (w : World) → IsWorldButBuffers old w → IsModelOutcome new reply (plain_step w step)

-- the kernel's table stays, and so do each process's, but for the leaves that the model's step changes
abbrev pub KeepsTablesOf : Machine → Machine → Step → Type 0
KeepsTablesOf old new step = (w : World) → IsWorldButBuffers old w → KeepsTables old new w.slots (plain_step w step).world.slots

-- `changed` and `born` together are exactly the slots that the model's step changed
abbrev pub MarksStep : Machine → Step → Option ℕ → Option ℕ → Type 0
MarksStep old step changed born = (w : World) → IsWorldButBuffers old w → AreMarked w (plain_step w step) changed born
