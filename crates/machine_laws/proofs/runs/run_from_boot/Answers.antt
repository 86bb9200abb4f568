use Rattle.std.specs.Prelude.{[]}
use Rattle.machine_laws.proofs.RunFollows.{run_history}
use Rattle.machine_laws.proofs.StepHistories.{booted_history}
use Rattle.machine_laws.proofs.runs.run_from_boot.Goals as goal
use Rattle.machine_laws.specs.MachineStates.{first_on}
use Rattle.process_model.specs.World.{booted}

pub returns-clause-histories : goal.returns-clause-histories
returns-clause-histories c =
    let m = c.in_ok-machine.machine in
    let w = booted c.args.config c.args.files in
    let is = c.in_ok-machine.ensures.booted in
    let follow = c.in_ok-replies.ensures.each_buffer w is in
    (m, is, follow, λ k. run_history k (first_on m k) c.args.steps.now m c.run.new.self w [] is follow (booted_history m c.args.config c.args.files k is))
