use Rattle.access_judge.proofs.Restart as lemma
use Rattle.access_judge.proofs.laws.restart_is_exact.Goals as goal

pub returns : goal.returns
returns c = lemma.restart_is_exact
