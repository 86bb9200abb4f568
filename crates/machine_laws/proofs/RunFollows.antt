-- A lemma: the steps of a run add their events to a hart's history.
use Rattle.std.proofs.Common.{ℕ, sym, subst, List, [], ◌∷◌}
use Rattle.access_history.specs.History.{First}
use Rattle.access_history.specs.declared.event.Event.{Event}
use Rattle.hart_machine.specs.BufferEntries.{IsInWorld}
use Rattle.hart_machine.specs.Runs.{BuffersFollow}
use Rattle.hart_machine.specs.declared.machine.Machine.{Machine}
use Rattle.machine_laws.proofs.StepHistories.{step_history}
use Rattle.machine_laws.specs.HartHistories.{HasHistory}
use Rattle.machine_laws.specs.MachineEvents.{after_step}
use Rattle.machine_laws.specs.RunHistories.{after_run}
use Rattle.process_model.specs.Steps.{step}
use Rattle.process_model.specs.World.{World}
use Rattle.process_model.specs.declared.step.Step.{Step}

pub run_history : (k : ℕ) (f : First) (steps : List Step) (old new : Machine) (w : World) (h : List Event) → IsInWorld old w → (follow : BuffersFollow old w steps new)
    → HasHistory old k f h → HasHistory new k f (after_run k old w steps new follow h)
run_history k f [] old new w h is follow has = subst (λ (m : Machine). HasHistory m k f h) (sym follow) has
run_history k f (s ∷ ss) old new w h is follow has =
    run_history k f ss follow.0 new (step w s).world (after_step old follow.0 s (step w s).reply k h) follow.1 follow.4
    (step_history old follow.0 w s (step w s).reply k f h is follow.1 (follow.3 is) has)
