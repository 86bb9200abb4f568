-- The history of a hart along a list of steps (`after_run`): each step adds its events.
use Rattle.std.specs.Prelude.{ℕ, List, [], ◌∷◌}
use Rattle.access_history.specs.declared.event.Event.{Event}
use Rattle.hart_machine.specs.Runs.{BuffersFollow}
use Rattle.hart_machine.specs.declared.machine.Machine.{Machine}
use Rattle.machine_laws.specs.MachineEvents.{after_step}
use Rattle.process_model.specs.Steps.{step}
use Rattle.process_model.specs.World.{World}
use Rattle.process_model.specs.declared.step.Step.{Step}

-- hart k's history after steps that lead from machine `old`, in world w, to machine `new`; `follow` has the machine after each step
abbrev pub after_run : ℕ → (old : Machine) (w : World) (steps : List Step) (new : Machine) → BuffersFollow old w steps new → List Event → List Event
after_run k old w [] new follow h = h
after_run k old w (x ∷ xs) new follow h = after_run k follow.0 (step w x).world xs new follow.4 (after_step old follow.0 x (step w x).reply k h)
