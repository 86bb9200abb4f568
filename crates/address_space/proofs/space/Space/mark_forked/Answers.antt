use Rattle.std.proofs.Common.{ap, sym, ◌∙◌}
use Rattle.std.specs.Prelude.{option_map}
use Rattle.address_space.specs.Layouts.{region_of}
use Rattle.address_space.proofs.ForkMarks.{fork_backed, fork_kept, fork_leafy, fork_mapped, fork_turned}
use Rattle.address_space.proofs.space.Space.mark_forked.Goals as goal
use Rattle.address_space.proofs.LowLeaves.{settled_number, number_of_scheme, last_of_scheme}
use Rattle.table_walk.specs.LowPages.{tables_of_scheme}

pub unreachable-requires : goal.unreachable-requires
unreachable-requires g c =
    let r = c.requires.ready in
    let found = rw c.number.ensures.value at (c.region_at.ensures r.1 r.3.lays) in
    let none = ap (option_map region_of) c.in_default.is in
    let shown = r.4.in_region in
    cc (found, none, shown)

pub returns-then-lacks_right-clause-marked : goal.returns-then-lacks_right-clause-marked
returns-then-lacks_right-clause-marked g c t p extra can is =
    let at = sym (rw c.number.ensures.value at (c.region_at.ensures p can.lays)) ∙ ap (option_map region_of) c.in-Some.is in
    (t, fork_kept _ can is _ at (sym c.lacks_right.ensures ∙ c.if-lacks_right.true))

pub leaf-leaf-requires : goal.leaf-leaf-requires
leaf-leaf-requires g c =
    let r = c.requires.ready in
    let at = sym (rw c.number.ensures.value at (c.region_at.ensures r.1 r.3.lays)) ∙ ap (option_map region_of) c.in-Some.is in
    record { leafy = fork_leafy c.args.settled.now r.3 r.4 _ at }

pub protect-requires-clause-mapped : goal.protect-requires-clause-mapped
protect-requires-clause-mapped g c =
    let r = c.requires.ready in
    let same = r.3.lays.scheme ∙ sym c.scheme-scheme.ensures in
    (r.0, tables_of_scheme same r.3.stands.tables, rw (number_of_scheme c.args.settled.now.page same (settled_number _ _ r.0 r.1 c.args.settled.now.page r.4.page r.3.stands.shows r.4.settled)) (fork_mapped c.args.settled.now r.3 r.4))

pub protect-requires-clause-backed : goal.protect-requires-clause-backed
protect-requires-clause-backed g c = let r = c.requires.ready in fork_backed c.args.settled.now r.3 r.4 _ _ _ c.leaf-leaf.ensures.leaf

pub returns-clause-marked : goal.returns-clause-marked
returns-clause-marked g c t p extra can is =
    let at = sym (rw c.number.ensures.value at (c.region_at.ensures p can.lays)) ∙ ap (option_map region_of) c.in-Some.is in
    let same = can.lays.scheme ∙ sym c.scheme-scheme.ensures in
    let tables = tables_of_scheme same can.stands.tables in (
      _,
      fork_turned _ can is _ at (sym c.lacks_right.ensures ∙ c.if-lacks_right.false) _ _ c.leaf-leaf.ensures.leaf (tables_of_scheme (sym same) (rw (number_of_scheme c.args.settled.now.page same (settled_number _ _ t p c.args.settled.now.page is.page can.stands.shows is.settled)) at (c.protect.ensures.tables t tables)).0)
          (λ x table. c.protect.ensures.word t x tables (last_of_scheme t c.args.settled.now.page same table)),
    )
