use Rattle.machine_laws.proofs.RunFollows.{run_history}
use Rattle.machine_laws.proofs.StepHistories.{booted_history, step_history}
use Rattle.machine_laws.proofs.histories.harts_have_histories.Goals as goal

pub returns : goal.returns
returns c = record {
  boots = λ m config files k is. booted_history m config files k is;
  steps = λ old new w s reply k f h is after buffers has. step_history old new w s reply k f h is after buffers has;
  runs = λ old new w steps k f h is follow has. run_history k f steps old new w h is follow has;
}
