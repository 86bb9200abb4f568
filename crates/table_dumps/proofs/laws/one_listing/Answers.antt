use Rattle.std.proofs.Common.{suc, filter}
use Rattle.table_dumps.specs.Below.{listed}
use Rattle.table_dumps.specs.Leaves.{is_leaf}
use Rattle.table_dumps.proofs.Found.{is_listing}
use Rattle.table_dumps.proofs.Mapped.{are_mappings}
use Rattle.table_dumps.proofs.OneListing.{same_listing, same_mappings}
use Rattle.table_dumps.proofs.laws.one_listing.Goals as goal

pub returns : goal.returns
returns c = record {
  entries = λ x m root top. (listed x m (suc top) 0 root, is_listing x m root top);
  mappings = λ x m root top. (filter (is_leaf x) (listed x m (suc top) 0 root), are_mappings x m root top);
  same_entries = λ x m root top ds es first second. same_listing x m root top ds es first second;
  same_mappings = λ x m root top ds es first second. same_mappings x m root top ds es first second;
}
