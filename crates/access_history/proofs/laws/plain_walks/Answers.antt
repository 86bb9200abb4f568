use Rattle.access_history.proofs.PlainRights.{plain_canonical, plain_place, plain_rights}
use Rattle.access_history.proofs.laws.plain_walks.Goals as goal

pub returns : goal.returns
returns c = record { rights = λ s mode kind level w sum mxr. plain_rights s sum mxr mode kind level w; place = plain_place; canonical = plain_canonical }
