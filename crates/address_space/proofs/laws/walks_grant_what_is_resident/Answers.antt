use Rattle.address_space.proofs.Grants.{grants}
use Rattle.address_space.proofs.laws.walks_grant_what_is_resident.Goals as goal

pub returns : goal.returns
returns c x t p access address space = grants x t p access address space
