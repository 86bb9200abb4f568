use Rattle.process_laws.proofs.SameCopies.{shared_by_fork}
use Rattle.process_laws.proofs.accounts.fork_shares_every_page.Goals as goal

pub returns : goal.returns
returns c = shared_by_fork
