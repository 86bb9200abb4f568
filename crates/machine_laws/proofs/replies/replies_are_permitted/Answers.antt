use Rattle.machine_laws.proofs.StoredReplies.{store_kept}
use Rattle.machine_laws.proofs.UserReplies.{replies_told}
use Rattle.machine_laws.proofs.replies.replies_are_permitted.Goals as goal

pub returns : goal.returns
returns c = record {
  replies = λ m w k x f h is at has have s q plain of made. replies_told m w k x f h is at has have plain s q of made;
  stores = λ old new w k address width value via x f h is after tables at has have plain done.
      store_kept old new w k address width value via x f h is after tables at has have plain done;
}
