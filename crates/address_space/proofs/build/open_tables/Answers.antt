use Rattle.std.proofs.Common.{◌≡◌, ℕ, [], refl, ◌∙◌, arith}
use Rattle.frame_store.specs.View.{hold_of, IsHeld}
use Rattle.table_walk.specs.LeafBacking.{kernel_backed}
use Rattle.table_walk.specs.Tables.{bare_root, ChangesTables, HasTables, Tables, IsGrown, leaf_node, missing, with_leaf}
use Rattle.table_walk.specs.LowPages.{maps_place}
use Rattle.sv39_entry.specs.Schemes.{top_level, trampoline_page, trapframe_page, of_scheme, page_at}
use Rattle.address_space.specs.Agreement.{NamesFrame, OwnsFrames}
use Rattle.address_space.proofs.BuildTables.{HasTrampoline, first_enough, has_trampoline, open_spends, opens, root_owns, root_spends, second_enough, trampoline_saved, trapframe_as_was, trapframe_shares, trapframe_unnamed, trapframe_yet, top_missing, zero_unnamed}
use Rattle.address_space.specs.Kernel.{data_leaf}
use Rattle.address_space.proofs.Owned.{both_of, same_sole}
use Rattle.address_space.proofs.build.open_tables.Given as given
use Rattle.address_space.proofs.build.open_tables.Goals as goal
use Rattle.address_space.proofs.build.open_tables.Goals.{After-map}

-- ---- TRAMPOLINE

page_is : (g : given.Over) (c : After-map g) → c.page.result ≡ trampoline_page c.args.scheme
page_is g c = page_at _ _ _ c.page.ensures.number c.trampoline.ensures

mapped : (g : given.Over) (c : After-map g)
    → (u : Tables) × IsGrown c.args.scheme (bare_root c.args.scheme c.new_table-root.result.0) u (trampoline_page c.args.scheme) (top_level c.args.scheme)
    × HasTables c.args.scheme (g.F.Seat.FrameSeat.view c.map.new.seat) c.new_table-root.result.0 (with_leaf u (leaf_node (trampoline_page c.args.scheme)) c.leaf_for_kernel-trampoline.result)
    × ChangesTables (g.F.Seat.FrameSeat.view c.new_table-root.new.seat) (g.F.Seat.FrameSeat.view c.map.new.seat) (bare_root c.args.scheme c.new_table-root.result.0) u
    (missing c.args.scheme (bare_root c.args.scheme c.new_table-root.result.0) (trampoline_page c.args.scheme))
mapped g c = maps_place c.args.scheme _ _ _ _ _ _ _ (page_is g c) (omega (arith, of_scheme c.args.scheme)) (c.map.ensures.tables (bare_root c.args.scheme c.new_table-root.result.0) (c.new_table-root.ensures.root c.args.scheme))

tables_missing : (g : given.Over) (c : After-map g) → missing c.args.scheme (bare_root c.args.scheme c.new_table-root.result.0) (trampoline_page c.args.scheme) ≡ top_level c.args.scheme
tables_missing g c = top_missing c.args.scheme c.new_table-root.result.0 (c.missing_is_growth.ensures.missing_first c.args.scheme (bare_root c.args.scheme c.new_table-root.result.0) c.new_table-root.result.0 refl)

abbrev with_trampoline : (g : given.Over) (c : After-map g) → Tables
with_trampoline g c = with_leaf (mapped g c).0 (leaf_node (trampoline_page c.args.scheme)) c.leaf_for_kernel-trampoline.result

-- the root is there, and the trapframe's frame beside it
module _ (g : given.Over) (c : After-map g) where
  root : ℕ
  root = c.new_table-root.result.0

  rooted : OwnsFrames (g.F.Seat.FrameSeat.view c.new_table-root.new.seat) (bare_root c.args.scheme c.new_table-root.result.0) (both_of c.args.trapframe.0 0)
  rooted = root_owns c.args.scheme _ _ c.new_table-root.result.0 _ c.requires.ready c.new_table-root.ensures.fresh c.new_table-root.ensures.view

  zero_free : (k : ℕ) → NamesFrame (bare_root c.args.scheme c.new_table-root.result.0) 0 k → ⊥
  zero_free = zero_unnamed c.args.scheme _ _ c.new_table-root.result.0 _ c.requires.ready c.new_table-root.ensures.fresh c.new_table-root.ensures.view

  waits : (k : ℕ) → NamesFrame (bare_root c.args.scheme c.new_table-root.result.0) c.args.trapframe.0 k → ⊥
  waits = trapframe_unnamed c.args.scheme _ _ c.new_table-root.result.0 _ c.requires.ready c.new_table-root.ensures.fresh c.new_table-root.ensures.view

  yet : IsHeld (g.F.Seat.FrameSeat.view c.new_table-root.new.seat) c.args.trapframe.0
  yet = trapframe_yet c.args.scheme _ _ c.new_table-root.result.0 _ c.requires.ready c.new_table-root.ensures.fresh c.new_table-root.ensures.view

  on_trampoline : HasTrampoline c.args.scheme (g.F.Seat.FrameSeat.view c.map.new.seat) c.new_table-root.result.0 c.args.trapframe.0 (with_trampoline g c)
  on_trampoline =
      let m = mapped g c in
      has_trampoline c.args.scheme _ _ c.new_table-root.result.0 c.args.trapframe.0 c.leaf_for_kernel-trampoline.result _ m.0 rooted zero_free (c.new_table-root.ensures.root c.args.scheme) m.1 m.2 m.3
      c.leaf_for_kernel-trampoline.ensures.made c.requires.ready.holds.apart yet waits
      (c.missing_is_growth.ensures.first c.args.scheme (bare_root c.args.scheme c.new_table-root.result.0) m.0 c.new_table-root.result.0 refl m.1)

  saved : hold_of (g.F.Seat.FrameSeat.view c.map.new.seat) c.args.trapframe.0 ≡ hold_of (g.F.Seat.FrameSeat.view c.args.seat.now) c.args.trapframe.0
  saved =
      let m = mapped g c in
      trampoline_saved c.args.scheme _ _ c.new_table-root.result.0 c.args.trapframe.0 c.leaf_for_kernel-trampoline.result _ m.0 rooted zero_free (c.new_table-root.ensures.root c.args.scheme) m.1 m.2 m.3
      c.leaf_for_kernel-trampoline.ensures.made c.requires.ready.holds.apart yet waits
      ∙ trapframe_as_was c.args.scheme _ _ c.new_table-root.result.0 _ c.requires.ready c.new_table-root.ensures.fresh c.new_table-root.ensures.view

pub new_table-root-requires-clause-anchored : goal.new_table-root-requires-clause-anchored
new_table-root-requires-clause-anchored g c = let one = c.requires.ready.holds.code in omega (arith, one)

pub new_table-root-requires-clause-credit : goal.new_table-root-requires-clause-credit
new_table-root-requires-clause-credit g c = let some = c.requires.ready.credits in omega (arith, some)

pub map-requires-clause-tables : goal.map-requires-clause-tables
map-requires-clause-tables g c =
    let root = c.new_table-root.result.0 in
    let spent = root_spends c.args.scheme _ _ root _ c.requires.ready c.new_table-root.ensures.fresh c.new_table-root.ensures.view in
    let two = top_missing c.args.scheme root (c.missing_is_growth.ensures.missing_first c.args.scheme (bare_root c.args.scheme root) root refl) in
    (bare_root c.args.scheme root, c.new_table-root.ensures.root c.args.scheme, first_enough c.args.scheme _ _ root c.page.result (page_at _ _ _ c.page.ensures.number c.trampoline.ensures) two spent c.requires.ready.credits)

pub map-requires-clause-backed : goal.map-requires-clause-backed
map-requires-clause-backed g c = kernel_backed _ _ c.leaf_for_kernel-trampoline.ensures.made.for_user

-- ---- TRAPFRAME

pub map-requires-2-clause-tables : goal.map-requires-2-clause-tables
map-requires-2-clause-tables g c =
    let first = (goal.at.map-requires-2-clause-tables g c).After-map in
    let before = with_trampoline g first in
    let has = on_trampoline g first in
    let none = c.missing_is_growth.ensures.none c.args.scheme before [] (trapframe_page c.args.scheme) has.tabled (trapframe_shares c.args.scheme) in
    (before, has.tables, second_enough c.args.scheme _ before c.page-2.result (page_at _ _ _ c.page-2.ensures.number c.trapframe.ensures) none)

pub map-requires-2-clause-backed : goal.map-requires-2-clause-backed
map-requires-2-clause-backed g c = kernel_backed _ _ c.leaf_for_kernel-saved.ensures.made.for_user

pub returns-clause-opened : goal.returns-clause-opened
returns-clause-opened g c =
    let root = c.new_table-root.result.0 in
    let first = (goal.at.returns-clause-opened g c).After-map in
    let before = with_trampoline g first in
    let has = on_trampoline g first in
    let m = maps_place c.args.scheme _ _ _ _ _ _ _ (page_at _ _ _ c.page-2.ensures.number c.trapframe.ensures) (omega (arith, of_scheme c.args.scheme)) (c.map-2.ensures.tables before has.tables) in
    let none = c.missing_is_growth.ensures.none c.args.scheme before [] (trapframe_page c.args.scheme) has.tabled (trapframe_shares c.args.scheme) in
    let spent = root_spends c.args.scheme _ _ root _ c.requires.ready c.new_table-root.ensures.fresh c.new_table-root.ensures.view in
    let sole = same_sole _ _ _ (saved g first) c.requires.ready.holds.sole in (
      with_leaf m.0 (leaf_node (trapframe_page c.args.scheme)) c.leaf_for_kernel-saved.result,
      opens c.args.scheme _ _ root c.leaf_for_kernel-saved.result c.args.trapframe.0 _ before m.0 has sole m.1 m.2 m.3 (data_leaf _ _ c.requires.ready.holds.apart c.leaf_for_kernel-saved.ensures.made)
          (c.missing_is_growth.ensures.same c.args.scheme before m.0 [] (trapframe_page c.args.scheme) has.tabled (trapframe_shares c.args.scheme) m.1) _ (saved g first)
          (open_spends c.args.scheme _ _ _ _ _ _ _ _ _ _ spent (tables_missing g first) (mapped g first).3 none m.3),
    )

pub returns-clause-free : goal.returns-clause-free
returns-clause-free g c = λ a. c.map-2.ensures.free a ∙ c.map.ensures.free a ∙ c.new_table-root.ensures.free a
