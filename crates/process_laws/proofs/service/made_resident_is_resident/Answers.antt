use Rattle.process_laws.proofs.Standing.{made_stands}
use Rattle.process_laws.proofs.service.made_resident_is_resident.Goals as goal

pub returns : goal.returns
returns c = made_stands
