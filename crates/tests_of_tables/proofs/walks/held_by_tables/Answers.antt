use Rattle.std.proofs.Common.{[], ap, arith, sym, ◌∙◌}
use Rattle.frame_store.specs.View.{View}
use Rattle.table_walk.specs.LeafBacking.{kernel_backed}
use Rattle.table_walk.specs.Tables.{bare_root}
use Rattle.tests_of_tables.proofs.TableSteps.{left_last, missing_low, of_ok, reserved_held}
use Rattle.tests_of_tables.proofs.walks.held_by_tables.Goals as goal
use Rattle.sv39_entry.specs.declared.scheme.Scheme.TheVariants.{Sv48}

pub new_table-root-requires-clause-fits : goal.new_table-root-requires-clause-fits
new_table-root-requires-clause-fits c = ([], c.reserve-reserved.ensures.keeps [] c.in_ok-frames.ensures.invariant)

pub new_table-root-requires-clause-anchored : goal.new_table-root-requires-clause-anchored
new_table-root-requires-clause-anchored c =
    let reserved = of_ok _ (sym c.is_ok.ensures.value ∙ c.if-prove.false) c.reserve-reserved.ensures.ok in
    reserved_held _ _ 4 c.in_ok-frames.ensures.seat reserved

pub map-requires-clause-fits : goal.map-requires-clause-fits
map-requires-clause-fits c = ([], c.new_table-root.ensures.keeps [] (c.reserve-reserved.ensures.keeps [] c.in_ok-frames.ensures.invariant))

pub map-requires-clause-tables : goal.map-requires-clause-tables
map-requires-clause-tables c =
    let opened = ap (λ (v : View). v.credits) c.in_ok-frames.ensures.seat in
    let reserved = of_ok _ (sym c.is_ok.ensures.value ∙ c.if-prove.false) c.reserve-reserved.ensures.ok in
    let had = ap (λ (v : View). v.credits) reserved in
    let spent = ap (λ (v : View). v.credits) c.new_table-root.ensures.view in
    let low = missing_low Sv48 (bare_root Sv48 c.new_table-root.result.0) c.page-page.result in
    (bare_root Sv48 c.new_table-root.result.0, c.new_table-root.ensures.root Sv48, omega (arith, opened, had, spent, low))

pub map-requires-clause-backed : goal.map-requires-clause-backed
map-requires-clause-backed c = kernel_backed _ _ c.leaf-leaf.ensures.made.for_user

pub unmap-requires-clause-fits : goal.unmap-requires-clause-fits
unmap-requires-clause-fits c = ([], c.map.ensures.keeps [] (c.new_table-root.ensures.keeps [] (c.reserve-reserved.ensures.keeps [] c.in_ok-frames.ensures.invariant)))

pub unmap-requires-clause-held : goal.unmap-requires-clause-held
unmap-requires-clause-held c = (_, (c.map.ensures.tables _ (c.new_table-root.ensures.root Sv48)).2)

pub release_tables-requires-clause-fits : goal.release_tables-requires-clause-fits
release_tables-requires-clause-fits c =
    ([], c.unmap.ensures.keeps [] (c.map.ensures.keeps [] (c.new_table-root.ensures.keeps [] (c.reserve-reserved.ensures.keeps [] c.in_ok-frames.ensures.invariant))))

pub release_tables-requires-clause-bare : goal.release_tables-requires-clause-bare
release_tables-requires-clause-bare c =
    let reserved = of_ok _ (sym c.is_ok.ensures.value ∙ c.if-prove.false) c.reserve-reserved.ensures.ok in
    let root = c.new_table-root.ensures in
    let mapped = c.map.ensures.tables _ (root.root Sv48) in
    let unmapped = c.unmap.ensures.tables _ mapped.2 in (
      _,
      unmapped.0,
      left_last Sv48 _ _ _ _ _ c.page-page.result _ c.leaf-leaf.result _ mapped.0 (reserved_held _ _ 4 c.in_ok-frames.ensures.seat reserved)
          root.fresh root.view root.anchored mapped.1 mapped.3 c.map.ensures.anchored unmapped.1,
    )
