use Rattle.std.proofs.Common.{suc}
use Rattle.sv39_entry.specs.Schemes.{top_level}
use Rattle.walk_lines.specs.Below.{listed}
use Rattle.walk_lines.proofs.Found.{is_listing}
use Rattle.walk_lines.proofs.OneListing.{same_listing}
use Rattle.walk_lines.proofs.laws.one_listing.Goals as goal

pub returns : goal.returns
returns c = record {
  at_least = λ s m root. (listed m (suc (top_level s)) 0 root, is_listing s m root);
  at_most = λ s m root ds es first second. same_listing s m root ds es first second;
}
