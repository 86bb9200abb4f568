use Rattle.std.proofs.Common.{◌≡◌, ◌<◌, ◌≤◌, true, false, List, length, get_or, leb, sym, ap, ◌∙◌, rules}
use Rattle.std.proofs.lemmas.List.Sorted.{IsPartitionPoint-from_clause, IsPartitionedBy-leb}
use Rattle.std.specs.List.Sorted.{IsPartitionPoint}
use Rattle.mmu.specs.Words.{is_in, is_in_some}
use Rattle.mmu.specs.declared.run.Run.{Run}
use Rattle.mmu.proofs.Apart.{ends, found, found_none}
use Rattle.mmu.proofs.runs.Runs.has.Goals as goal

pub returns-in-Some : goal.returns-in-Some
returns-in-Some c =
    let xs = c.self.inside.runs.items in
    let point : IsPartitionPoint (λ (r : Run). leb r.end c.args.number ≡ true) (λ (r : Run). leb r.end c.args.number ≡ false) xs c.partition_point-at.result =
    rw (← c.deref.ensures.value) (IsPartitionPoint-from_clause (λ (r : Run). leb r.end c.args.number) c.deref.result.now c.partition_point-at.result c.partition_point-at.ensures.partitioned
    (IsPartitionedBy-leb (λ (r : Run). r.end) c.deref.result.now c.args.number (rw c.deref.ensures.value (ends xs c.self.invariant))) (λ a r q k. search rules)) in
    let item : (c.partition_point-at.result < length xs) × ((d : Run) → c.in-Some.run'.now ≡ get_or xs c.partition_point-at.result d) =
    rw (← c.deref-2.ensures.value) c.in-Some.ensures.lookup.3 in
    c.has.ensures ∙ ap (λ (r : Run). is_in r c.args.number) (item.1 c.in-Some.run'.now)
    ∙ sym (found xs c.self.invariant c.args.number c.partition_point-at.result point c.in-Some.run'.now item.0)
    ∙ ap (λ (rs : List Run). is_in_some rs c.args.number) c.self.view_is

pub returns-in-None : goal.returns-in-None
returns-in-None c =
    let xs = c.self.inside.runs.items in
    let point : IsPartitionPoint (λ (r : Run). leb r.end c.args.number ≡ true) (λ (r : Run). leb r.end c.args.number ≡ false) xs c.partition_point-at.result =
    rw (← c.deref.ensures.value) (IsPartitionPoint-from_clause (λ (r : Run). leb r.end c.args.number) c.deref.result.now c.partition_point-at.result c.partition_point-at.ensures.partitioned
    (IsPartitionedBy-leb (λ (r : Run). r.end) c.deref.result.now c.args.number (rw c.deref.ensures.value (ends xs c.self.invariant))) (λ a r q k. search rules)) in
    let all : length xs ≤ c.partition_point-at.result = rw (← c.deref-2.ensures.value) c.in-None.ensures.lookup.3 in
    sym (found_none xs c.self.invariant c.args.number c.partition_point-at.result point all)
    ∙ ap (λ (rs : List Run). is_in_some rs c.args.number) c.self.view_is
