use Rattle.std.proofs.Common.{◌≡◌, [], refl, arith}
use Rattle.table_walk.specs.LeafBacking.{kernel_backed}
use Rattle.table_walk.specs.LowPages.{maps_place}
use Rattle.table_walk.specs.Tables.{bare_root, ChangesTables, HasTables, IsGrown, leaf_node, missing, Tables, with_leaf}
use Rattle.sv39_entry.specs.Schemes.{of_scheme, top_level, trampoline_page, trapframe_page, page_at}
use Rattle.address_space.specs.Kernel.{data_leaf}
use Rattle.cow_fork.proofs.Opening.{first_enough, makes_root, opens, second_enough, top_missing, trapframe_shares}
use Rattle.cow_fork.proofs.tree.open_tables.Given as given
use Rattle.cow_fork.proofs.tree.open_tables.Goals as goal
use Rattle.cow_fork.proofs.tree.open_tables.Goals.{After-map}

pub map-requires-clause-tables : goal.map-requires-clause-tables
map-requires-clause-tables g c =
    let z = c.args.scheme in
    let root = c.new_table-root.result.0 in
    let first = makes_root z _ _ root c.new_table-root.ensures.fresh c.new_table-root.ensures.view in
    let top = top_missing z root c.page.result (page_at _ _ _ c.page.ensures.number c.trampoline.ensures) (c.missing_is_growth.ensures.missing_first z (bare_root z root) root refl) in
    (bare_root z root, c.new_table-root.ensures.root z, first_enough z _ _ root _ c.page.result c.requires.ready first top)

pub map-requires-clause-backed : goal.map-requires-clause-backed
map-requires-clause-backed g c = kernel_backed _ _ c.leaf_for_kernel-code.ensures.made.for_user

pub map-requires-2-clause-backed : goal.map-requires-2-clause-backed
map-requires-2-clause-backed g c = kernel_backed _ _ c.leaf_for_kernel-saved.ensures.made.for_user

-- TRAMPOLINE is mapped
module _ (g : given.Over) (c : After-map g) where
  mapped : (u : Tables) × IsGrown c.args.scheme (bare_root c.args.scheme c.new_table-root.result.0) u (trampoline_page c.args.scheme) (top_level c.args.scheme)
      × HasTables c.args.scheme (g.S.FrameSeat.view c.map.new.seat) c.new_table-root.result.0 (with_leaf u (leaf_node (trampoline_page c.args.scheme)) c.leaf_for_kernel-code.result)
      × ChangesTables (g.S.FrameSeat.view c.new_table-root.new.seat) (g.S.FrameSeat.view c.map.new.seat) (bare_root c.args.scheme c.new_table-root.result.0) u
      (missing c.args.scheme (bare_root c.args.scheme c.new_table-root.result.0) (trampoline_page c.args.scheme))
  mapped = maps_place c.args.scheme _ _ _ _ _ _ _ (page_at _ _ _ c.page.ensures.number c.trampoline.ensures) (omega (arith, of_scheme c.args.scheme))
      (c.map.ensures.tables (bare_root c.args.scheme c.new_table-root.result.0) (c.new_table-root.ensures.root c.args.scheme))

  abbrev with_code : Tables
  with_code = with_leaf mapped.0 (leaf_node (trampoline_page c.args.scheme)) c.leaf_for_kernel-code.result

  none_missing : missing c.args.scheme with_code (trapframe_page c.args.scheme) ≡ 0
  none_missing =
      let z = c.args.scheme in
      let root = c.new_table-root.result.0 in
      let growth = c.missing_is_growth.ensures in
      growth.none z with_code [] (trapframe_page z) (growth.first z (bare_root z root) mapped.0 root refl mapped.1) (trapframe_shares z)

pub map-requires-2-clause-tables : goal.map-requires-2-clause-tables
map-requires-2-clause-tables g c =
    let first = (goal.at.map-requires-2-clause-tables g c).After-map in (
      with_code g first,
      (mapped g first).2,
      second_enough c.args.scheme _ (with_code g first) c.page-2.result (page_at _ _ _ c.page-2.ensures.number c.trapframe.ensures) (none_missing g first),
    )

pub returns-clause-opened : goal.returns-clause-opened
returns-clause-opened g c =
    let z = c.args.scheme in
    let root = c.new_table-root.result.0 in
    let first = (goal.at.returns-clause-opened g c).After-map in
    let before = with_code g first in
    let one = mapped g first in
    let m = maps_place z _ _ _ _ _ _ _ (page_at _ _ _ c.page-2.ensures.number c.trapframe.ensures) (omega (arith, of_scheme z)) (c.map-2.ensures.tables before one.2) in
    let begun = makes_root z _ _ root c.new_table-root.ensures.fresh c.new_table-root.ensures.view in
    let growth = c.missing_is_growth.ensures in
    let top = top_missing z root (trampoline_page z) refl (growth.missing_first z (bare_root z root) root refl) in
    let are = growth.same z before m.0 [] (trapframe_page z) (growth.first z (bare_root z root) one.0 root refl one.1) (trapframe_shares z) m.1 in (
      with_leaf m.0 (leaf_node (trapframe_page z)) c.leaf_for_kernel-saved.result,
      opens z _ _ _ _ root c.args.trapframe.0 c.leaf_for_kernel-code.result c.leaf_for_kernel-saved.result one.0 m.0 c.requires.ready begun one.1 one.3 top c.leaf_for_kernel-code.ensures.made
          m.1 m.3 (none_missing g first) m.2 (data_leaf _ _ c.requires.ready.apart c.leaf_for_kernel-saved.ensures.made) are,
    )
