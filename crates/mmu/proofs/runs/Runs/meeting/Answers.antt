use Rattle.std.proofs.Common.{◌≡◌, ◌≤◌, true, false, List, length, leb, ltb, subst, rules}
use Rattle.std.proofs.lemmas.List.Sorted.{IsPartitionPoint-from_clause, IsPartitionedBy-leb, IsPartitionedBy-ltb}
use Rattle.std.specs.List.Sorted.{IsPartitionPoint}
use Rattle.mmu.specs.Words.{Meets}
use Rattle.mmu.specs.declared.run.Run.{Run}
use Rattle.mmu.proofs.Apart.{ends, firsts, meets}
use Rattle.mmu.proofs.runs.Runs.meeting.Goals as goal

pub returns : goal.returns
returns c =
    let xs = c.self.inside.runs.items in
    let lows : IsPartitionPoint (λ (r : Run). ltb r.end c.args.run.first ≡ true) (λ (r : Run). ltb r.end c.args.run.first ≡ false) xs c.partition_point-low.result =
    rw (← c.deref.ensures.value) (IsPartitionPoint-from_clause (λ (r : Run). ltb r.end c.args.run.first) c.deref.result.now c.partition_point-low.result c.partition_point-low.ensures.partitioned
    (IsPartitionedBy-ltb (λ (r : Run). r.end) c.deref.result.now c.args.run.first (rw c.deref.ensures.value (ends xs c.self.invariant))) (λ a r q k. search rules)) in
    let highs : IsPartitionPoint (λ (r : Run). leb r.first c.args.run.end ≡ true) (λ (r : Run). leb r.first c.args.run.end ≡ false) xs c.partition_point-high.result =
    rw (← c.deref-2.ensures.value) (IsPartitionPoint-from_clause (λ (r : Run). leb r.first c.args.run.end) c.deref-2.result.now c.partition_point-high.result c.partition_point-high.ensures.partitioned
    (IsPartitionedBy-leb (λ (r : Run). r.first) c.deref-2.result.now c.args.run.end (rw c.deref-2.ensures.value (firsts xs c.self.invariant))) (λ a r q k. search rules)) in
    let low-l : c.partition_point-low.result ≤ length xs = rw (← c.deref.ensures.value) c.partition_point-low.ensures.bound in
    let high-l : c.partition_point-high.result ≤ length xs = rw (← c.deref-2.ensures.value) c.partition_point-high.ensures.bound in
    subst (λ (rs : List Run). Meets rs c.args.run c.partition_point-low.result c.partition_point-high.result) c.self.view_is
    (meets xs c.self.invariant c.args.run c.partition_point-low.result c.partition_point-high.result c.requires low-l high-l lows highs)
