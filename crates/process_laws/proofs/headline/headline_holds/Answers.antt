use Rattle.process_laws.proofs.HeadlineProof.{headline_holds}
use Rattle.process_laws.proofs.headline.headline_holds.Goals as goal

pub returns : goal.returns
returns c = headline_holds
