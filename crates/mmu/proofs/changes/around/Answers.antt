use Rattle.std.proofs.Common.{◌≡◌, ◌-◌, suc, leb, sym, ◌∙◌, subst, arith, rules}
use Rattle.std.proofs.lemmas.List.Sorted.{IsPartitionPoint-from_clause, IsPartitionedBy-leb}
use Rattle.mmu.specs.Changing.{number_of}
use Rattle.mmu.specs.declared.changes.Change.{Change}
use Rattle.mmu.proofs.Searching.{Splits, after_is, since_is, since_none}
use Rattle.mmu.proofs.changes.around.Goals as goal

pub returns-then-at-eq0-clause-since : goal.returns-then-at-eq0-clause-since
returns-then-at-eq0-clause-since c =
    let point : Splits c.args.moment c.args.list.now c.partition_point-at.result =
    IsPartitionPoint-from_clause (λ (x : Change). leb x.number c.args.moment) c.args.list.now c.partition_point-at.result c.partition_point-at.ensures.partitioned
    (IsPartitionedBy-leb number_of c.args.list.now c.args.moment c.requires) (λ a r q k. search rules) in
    sym (since_none c.args.moment c.args.list.now 0 (subst (Splits c.args.moment c.args.list.now) c.if-at-eq0.true point))

pub returns-then-at-eq0-clause-after : goal.returns-then-at-eq0-clause-after
returns-then-at-eq0-clause-after c =
    let point : Splits c.args.moment c.args.list.now c.partition_point-at.result =
    IsPartitionPoint-from_clause (λ (x : Change). leb x.number c.args.moment) c.args.list.now c.partition_point-at.result c.partition_point-at.ensures.partitioned
    (IsPartitionedBy-leb number_of c.args.list.now c.args.moment c.requires) (λ a r q k. search rules) in
    c.nth-after.ensures ∙ sym (after_is c.args.moment c.args.list.now c.partition_point-at.result point)

pub returns-clause-since : goal.returns-clause-since
returns-clause-since c =
    let point : Splits c.args.moment c.args.list.now c.partition_point-at.result =
    IsPartitionPoint-from_clause (λ (x : Change). leb x.number c.args.moment) c.args.list.now c.partition_point-at.result c.partition_point-at.ensures.partitioned
    (IsPartitionedBy-leb number_of c.args.list.now c.args.moment c.requires) (λ a r q k. search rules) in
    let one : c.partition_point-at.result ≡ suc (c.partition_point-at.result - 1) = omega (arith, c.if-at-eq0.false) in
    sym (since_is c.args.moment c.args.list.now (c.partition_point-at.result - 1) 0 _ (omega (arith, c.if-at-eq0.false, c.partition_point-at.ensures.bound))
    (subst (Splits c.args.moment c.args.list.now) one point))

pub returns-clause-after : goal.returns-clause-after
returns-clause-after c =
    let point : Splits c.args.moment c.args.list.now c.partition_point-at.result =
    IsPartitionPoint-from_clause (λ (x : Change). leb x.number c.args.moment) c.args.list.now c.partition_point-at.result c.partition_point-at.ensures.partitioned
    (IsPartitionedBy-leb number_of c.args.list.now c.args.moment c.requires) (λ a r q k. search rules) in
    c.nth-after.ensures ∙ sym (after_is c.args.moment c.args.list.now c.partition_point-at.result point)
