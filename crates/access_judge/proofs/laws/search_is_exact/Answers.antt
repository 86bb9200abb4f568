use Rattle.access_judge.proofs.Exact as lemma
use Rattle.access_judge.proofs.laws.search_is_exact.Goals as goal

pub returns : goal.returns
returns c = lemma.search_is_exact
