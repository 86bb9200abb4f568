use Rattle.machine_laws.proofs.MachineAnswers.{entry_answers, walk_answers}
use Rattle.machine_laws.proofs.permitted.answers_are_permitted.Goals as goal

pub returns : goal.returns
returns c = record {
  entries = λ m w k x f h is at has e there have q mode plain plainly matched. entry_answers m w k x f h is at has have q mode plain plainly e there matched;
  walks = λ m w k x f h is at has have q mode plain plainly. walk_answers m w k x f h is at has have q mode plain plainly;
}
