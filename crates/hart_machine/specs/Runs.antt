-- `BuffersFollow`, a relation: the TLBs of a machine along a list of steps, each changed as its step changes it. What a fill
-- adds is told by the tables of that moment, and they are tied from step to step: a page that keeps its copy number, and a
-- trapframe, stay on their frames.
use Rattle.std.specs.Prelude.{◌≡◌, List, [], ◌∷◌}
use Rattle.process_model.specs.Steps.{step}
use Rattle.process_model.specs.World.{World}
use Rattle.process_model.specs.declared.step.Step.{Step}
use Rattle.hart_machine.specs.Buffers.{BuffersAre}
use Rattle.hart_machine.specs.BufferEntries.{IsInWorld}
use Rattle.hart_machine.specs.Worlds.{KeepsTables}
use Rattle.hart_machine.specs.declared.machine.Machine.{Machine}

-- the steps lead from machine `old`, in world w, to machine `new`: there is a machine after each step, in the world that the
-- model's step leads to, which keeps its page tables and frames (`KeepsTables`), and each of whose buffers is what the step makes
-- of the buffer before (`BuffersAre`)
abbrev pub BuffersFollow : Machine → World → List Step → Machine → Type 0
BuffersFollow old w [] new = new ≡ old
BuffersFollow old w (x ∷ xs) new =
    (mid : Machine) × IsInWorld mid (step w x).world × KeepsTables old mid w.slots ((step w x).world).slots
    × ((is : IsInWorld old w) → BuffersAre old mid (is.world).tables (is.world).kernel x (step w x).reply) × BuffersFollow mid (step w x).world xs new
