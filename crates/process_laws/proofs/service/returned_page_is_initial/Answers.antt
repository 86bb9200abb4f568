use Rattle.process_laws.proofs.Released.{settled_is_initial, shrunk_goes, unmapped_goes}
use Rattle.process_laws.proofs.service.returned_page_is_initial.Goals as goal

pub returns-clause-shrunk : goal.returns-clause-shrunk
returns-clause-shrunk c = shrunk_goes

pub returns-clause-unmapped : goal.returns-clause-unmapped
returns-clause-unmapped c = unmapped_goes

pub returns-clause-settled : goal.returns-clause-settled
returns-clause-settled c = settled_is_initial
