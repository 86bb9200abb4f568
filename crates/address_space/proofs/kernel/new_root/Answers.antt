use Rattle.std.proofs.Common.{ap, arith, ℕ, ◌≡◌, ◌<◌, ◌*◌, ◌/◌}
use Rattle.frame_store.specs.View.{View}
use Rattle.table_walk.specs.LeafBacking.{kernel_backed}
use Rattle.table_walk.specs.Tables.{bare_root}
use Rattle.table_walk.specs.LowPages.{maps_low}
use Rattle.address_space.proofs.KernelSteps.{root_maps, root_missing, root_spends}
use Rattle.address_space.proofs.kernel.new_root.Goals as goal
use Rattle.sv39_entry.specs.Schemes.{of_scheme, page_limit, trampoline_page}
use Rattle.sv39_entry.specs.declared.scheme.Scheme.{Scheme}

top_at : (z : Scheme) (page address : ℕ) → page ≡ address / 4096 → address ≡ 4096 * trampoline_page z → page ≡ trampoline_page z
top_at z page address is at = omega (arith, is, at)

low_top : (z : Scheme) (p : ℕ) → p ≡ trampoline_page z → p < page_limit z
low_top z p is = let facts = of_scheme z in omega (arith, is, facts)

pub map-requires-clause-tables : goal.map-requires-clause-tables
map-requires-clause-tables g c =
    let root = c.new_table-root.ensures in
    let short = root_missing c.args.scheme c.new_table-root.result.0 c.page.result (top_at c.args.scheme _ _ c.page.ensures.number c.trampoline.ensures) in
    let spent = ap (λ (v : View). v.credits) root.view in
    (bare_root c.args.scheme c.new_table-root.result.0, root.root c.args.scheme, omega (arith, short, spent, c.requires.credits))

pub map-requires-clause-backed : goal.map-requires-clause-backed
map-requires-clause-backed g c = kernel_backed _ _ c.leaf_for_kernel.ensures.made.for_user

pub returns-clause-mapped : goal.returns-clause-mapped
returns-clause-mapped g c =
    let root = c.new_table-root.ensures in
    (_, root_maps c.args.scheme c.new_table-root.result.0 c.page.result _ _ _ _ root.view root.fresh c.requires.once c.requires.bare (top_at c.args.scheme _ _ c.page.ensures.number c.trampoline.ensures) c.leaf_for_kernel.ensures.word (maps_low c.args.scheme _ _ _ _ c.page.result _ _ (low_top c.args.scheme c.page.result (top_at c.args.scheme _ _ c.page.ensures.number c.trampoline.ensures)) (c.map.ensures.tables _ (root.root c.args.scheme))))

pub returns-clause-spends : goal.returns-clause-spends
returns-clause-spends g c =
    let root = c.new_table-root.ensures in
    root_spends c.args.scheme c.new_table-root.result.0 c.page.result _ _ _ _ root.view root.fresh c.requires.once c.requires.bare (top_at c.args.scheme _ _ c.page.ensures.number c.trampoline.ensures) c.leaf_for_kernel.ensures.word (maps_low c.args.scheme _ _ _ _ c.page.result _ _ (low_top c.args.scheme c.page.result (top_at c.args.scheme _ _ c.page.ensures.number c.trampoline.ensures)) (c.map.ensures.tables _ (root.root c.args.scheme)))
