use Rattle.walk_rules.proofs.AdBits.{has_with_ad}
use Rattle.walk_rules.proofs.status.with_ad.Goals as goal

pub returns-clause-bits : goal.returns-clause-bits
returns-clause-bits c = λ i. rw c.set_ad.ensures (has_with_ad c.args.access c.args.entry i)
