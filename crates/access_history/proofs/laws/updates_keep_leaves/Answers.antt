use Rattle.access_history.proofs.AdWords.{global_still, leaf_still}
use Rattle.access_history.proofs.laws.updates_keep_leaves.Goals as goal

pub returns : goal.returns
returns c = record {
  leaf = λ x level w v set. leaf_still w v set x level;
  global = λ w v set. global_still w v set;
}
