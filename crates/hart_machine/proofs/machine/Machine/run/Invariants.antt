use Rattle.std.proofs.Common.{◌≡◌, ◌≤◌, drop, length, vec_len}
use Rattle.std.specs.Vec.{vec_capacity}
use Rattle.process_model.specs.World.{World}
use Rattle.hart_machine.specs.BufferEntries.{IsInWorld}
use Rattle.hart_machine.proofs.ListedSteps.{HasRun}
use Rattle.hart_machine.proofs.machine.Machine.run.Given as goal

abbrev pub invariant-steps : goal.invariant-steps
invariant-steps l = record {
  room : length l.steps ≤ vec_capacity l.replies;
  made : vec_len l.replies ≡ l.step-index;
  has_run : (w : World) → IsInWorld l.initial.self w → HasRun l.initial.self l.self l.steps (drop l.step-index l.steps) l.replies.items w;
}
