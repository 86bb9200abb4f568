use Rattle.std.proofs.Common.{◌≡◌, rules}
use Rattle.std.specs.Cmp.Lexicographic.{slice_cmp, nat_list_cmp_total}
use Rattle.std.specs.Ordering.{nat_cmp, is_lt}
use Rattle.std.proofs.lemmas.List.Sorted.{ranks_by}
use Rattle.std.proofs.lemmas.Fn.{always_returns_same}
use Rattle.hart_calls.specs.declared.finished.Finished.{Finished}
use Rattle.audit_player.proofs.thread_text.sort_by_name.Goals as goal

pub returns-clause-order : goal.returns-clause-order
returns-clause-order c =
    c.sort_unstable_by.ensures.sorted (λ (x : Finished) (y : Finished). is_lt (slice_cmp nat_cmp x.name.items y.name.items)) (ranks_by nat_list_cmp_total (λ (x : Finished). x.name.items)) (always_returns_same _ (λ a r. is_lt r ≡ is_lt (slice_cmp nat_cmp a.0.now.name.items a.1.0.now.name.items)) _ (λ a r f' k. search rules))
