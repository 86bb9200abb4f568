use Rattle.std.proofs.Common.{◌≡◌, ◌+◌, ◌||◌, Some, [], ◌∷◌, refl, ap, sym, ◌∙◌, arith, subst}
use Rattle.std.specs.Prelude.{is_some, IsSome}
use Rattle.frame_store.specs.Laws.{fits_after}
use Rattle.process_model.specs.PageMap as pages
use Rattle.process_model.proofs.OrderLaws.{leafy_at}
use Rattle.process_model.specs.Process.{Process, regions}
use Rattle.process_model.specs.Regions.{region_at}
use Rattle.process_model.proofs.ValueSets.{none_in}
use Rattle.table_walk.specs.Tables.{leaf_node, Tables, with_leaf}
use Rattle.table_walk.specs.LastTables.{last_of_scheme}
use Rattle.table_walk.specs.LowPages.{tables_of_scheme}
use Rattle.address_space.specs.Layouts.{region_of}
use Rattle.address_space.specs.declared.region.Region.{Region}
use Rattle.address_space.specs.ProcessLeaves.{page_backed}
use Rattle.cow_fork.proofs.Copying.{child_leaf, child_unwritable, copies_all, copies_more, done_low, enough, maps_near, mark_had, mark_new, next_left, none_left, open_first, page_known, page_low, still_anchored, missing_of_scheme}
use Rattle.cow_fork.proofs.NeededTables.{tables_up, first_needed}
use Rattle.cow_fork.proofs.tree.copy_tree.Goals as goal
use Rattle.cow_fork.proofs.tree.copy_tree.Goals.{After-enter_region, else-page, then-page}
use Rattle.cow_fork.specs.Children.{CanCopy, CanOpen}
use Rattle.cow_fork.proofs.SameRegion.{none_entered, region_stays}
use Rattle.cow_fork.proofs.tree.copy_tree.Given as given

pub open_tables-root-requires-clause-ready : goal.open_tables-root-requires-clause-ready
open_tables-root-requires-clause-ready g c =
    let r = c.requires.ready in
    let up = tables_up (r.1).scheme [] (pages.keys r.1.settled) (λ n h. absurd (none_in n h)) in
    let first = first_needed (r.1).scheme in
    subst (λ z. CanOpen z (g.S.FrameSeat.view c.args.space.now.seat) c.args.trapframe.0) (r.2.lays.scheme ∙ sym c.scheme-scheme.ensures) (open_first _ _ r.0 r.1 _ _ (omega (arith, up, first)) r.2)

pub pages-init : goal.pages-init
pages-init g c =
    let e = c.open_tables-root.ensures in
    record {
      root = refl;
      trapframe = refl;
      layout = refl;
      keeps = e.keeps;
      free = e.free;
      entered = λ t p can. none_entered p _ (ap (λ (x : Region). x.pages) c.default-region.ensures);
      copied = λ t p can. ((e.opened.0, 0, [], e.opened.1 t p (can.lays.scheme ∙ sym c.scheme-scheme.ensures), can.settled), tt);
    }

pub enter_region-requires : goal.enter_region-requires
enter_region-requires g c =
    let r = c.requires.ready in
    let i = c.pages.invariant in
    let k = (i.copied r.0 r.1 r.2).0 in
    let next = (next_left r.0 r.1 k.1 c.pages.page-index c.args.settled.now k.4 c.page-item.result c.pages-test.true c.page-item.is).0 in
    let some : IsSome (region_at (regions r.1) c.page-item.result.page) = ap is_some (next.3).in_region in
    record { ready = (r.1, rw i.layout r.2.lays, i.entered r.0 r.1 r.2, rw c.number.ensures.value some) }

-- the region of the page
here : (g : given.Over) (c : After-enter_region g) (t : Tables) (p : Process) → CanCopy (g.S.FrameSeat.view c.args.space.now.seat) c.args.space.now.layout t p c.args.trapframe.0 c.args.settled.now
    → region_at (regions p) c.page-item.result.page ≡ Some (region_of c.enter_region.new.region)
here g c t p can = rw c.number.ensures.value at c.enter_region.ensures p (rw c.pages.invariant.layout can.lays) (c.pages.invariant.entered t p can)

pub leaf-leaf-requires : goal.leaf-leaf-requires
leaf-leaf-requires g c =
    let r = c.requires.ready in
    record { leafy = leafy_at r.1 r.2.order c.page-item.result.page _ (here g (goal.at.leaf-leaf-requires g c).After-enter_region r.0 r.1 r.2) }

pub map_with_last-requires-clause-fits : goal.map_with_last-requires-clause-fits
map_with_last-requires-clause-fits g c = fits_after g.F.FrameAccess.invariant c.pages.invariant.keeps c.requires.fits

pub map_with_last-requires-clause-anchored : goal.map_with_last-requires-clause-anchored
map_with_last-requires-clause-anchored g c =
    let r = c.requires.ready in
    let k = (c.pages.invariant.copied r.0 r.1 r.2).0 in
    still_anchored _ _ _ r.0 k.0 r.1 _ _ k.1 k.2 _ r.2 k.3

pub map_with_last-requires-clause-tables : goal.map_with_last-requires-clause-tables
map_with_last-requires-clause-tables g c =
    let r = c.requires.ready in
    let k = (c.pages.invariant.copied r.0 r.1 r.2).0 in
    let a = c.page-item.result in
    let next = (next_left r.0 r.1 k.1 c.pages.page-index c.args.settled.now k.4 a c.pages-test.true c.page-item.is).0 in
    let low = done_low _ _ _ r.0 k.0 r.1 _ _ k.1 k.2 _ r.2 k.3 in
    let small = page_low _ _ _ r.0 k.0 r.1 _ _ k.1 k.2 _ r.2 k.3 a next in
    let law = c.missing_is_growth.ensures.missing (r.1).scheme k.0 k.2 a.page k.3.tabled low small in
    let same = r.2.lays.scheme ∙ sym c.scheme-scheme.ensures in
    let near = last_of_scheme k.0 c.pages.last same (c.pages.invariant.copied r.0 r.1 r.2).1 in
    (k.0, tables_of_scheme same k.3.tables, near, missing_of_scheme k.0 a.page _ same (enough _ _ _ r.0 k.0 r.1 _ _ k.1 k.2 _ r.2 k.3 a next law))

pub map_with_last-requires-clause-backed : goal.map_with_last-requires-clause-backed
map_with_last-requires-clause-backed g c =
    let r = c.requires.ready in
    let k = (c.pages.invariant.copied r.0 r.1 r.2).0 in
    let a = c.page-item.result in
    let writes = (region_of c.enter_region.new.region).writes in
    let next = (next_left r.0 r.1 k.1 c.pages.page-index c.args.settled.now k.4 a c.pages-test.true c.page-item.is).0 in
    let mark : c.if-page.cow ≡ (a.cow || writes) = elim c.if-page.branch [
      | then-page w ↦ mark_had c.if-page.cow a.cow writes w.cow-is w.if-page.true
      | else-page w ↦ mark_new c.if-page.cow a.cow w.lacks_right.result writes w.cow-is w.if-page.false w.lacks_right.ensures
    ] in
    page_backed _ _ _ _ _ _ c.leaf-leaf.ensures.leaf (page_known _ _ _ r.0 k.0 r.1 _ _ k.1 k.2 _ r.2 k.3 a next)
    (λ allowed. absurd (child_unwritable writes a.cow c.if-page.cow mark allowed))

pub pages-preserved : goal.pages-preserved
pages-preserved g c =
    let i = c.pages.invariant in
    let m = c.map_with_last.ensures in
    let a = c.page-item.result in
    let r = region_of c.enter_region.new.region in
    let mark_is : c.if-page.cow ≡ (a.cow || r.writes) = elim c.if-page.branch [
      | then-page w ↦ mark_had c.if-page.cow a.cow r.writes w.cow-is w.if-page.true
      | else-page w ↦ mark_new c.if-page.cow a.cow w.lacks_right.result r.writes w.cow-is w.if-page.false w.lacks_right.ensures
    ] in
    record {
      root = i.root;
      trapframe = i.trapframe;
      layout = i.layout;
      keeps = λ others s. m.keeps others (i.keeps others s);
      free = λ alone. m.free alone ∙ i.free alone;
      entered = λ t p can. region_stays p _ _ can.order (here g (goal.at.pages-preserved g c).After-enter_region t p can);
      copied = λ t p can.
          let far = i.copied t p can in
          let k = far.0 in
          let both = next_left t p k.1 c.pages.page-index c.args.settled.now k.4 a c.pages-test.true c.page-item.is in
          let next = both.0 in
          let low = done_low _ _ _ t k.0 p _ _ k.1 k.2 _ can k.3 in
          let small = page_low _ _ _ t k.0 p _ _ k.1 k.2 _ can k.3 a next in
          let law = c.missing_is_growth.ensures.missing p.scheme k.0 k.2 a.page k.3.tabled low small in
          let at = here g (goal.at.pages-preserved g c).After-enter_region t p can in
          let mark_was = mark_is ∙ ap (λ b. b || r.writes) (next.3).cow in
          let made = child_leaf p a.page (next.3).page r c.leaf-leaf.result (a.frame).0 c.if-page.cow c.is_dirty_from_start.result at mark_was c.is_dirty_from_start.ensures c.leaf-leaf.ensures.leaf in
          let same = can.lays.scheme ∙ sym c.scheme-scheme.ensures in
          let n = maps_near p.scheme c.scheme-scheme.result _ _ _ k.0 a.page c.leaf-leaf.result c.map_with_last.new.last same small
          (m.tables k.0 (tables_of_scheme same k.3.tables) (last_of_scheme k.0 c.pages.last same far.1)) in
          let tabled = c.missing_is_growth.ensures.grown p.scheme k.0 n.0 k.2 a.page k.3.tabled n.1 in
          let more = copies_more _ _ _ t k.0 p _ _ k.1 k.2 _ can k.3 a next law _ n.0 c.leaf-leaf.result r at made n.1 n.2 n.3 tabled in
          ((with_leaf n.0 (leaf_node a.page) c.leaf-leaf.result, a.page + 1, a.page ∷ k.2, more, both.1), n.4);
    }

pub returns-clause-copied : goal.returns-clause-copied
returns-clause-copied g c t p can =
    let k = (c.pages.invariant.copied t p can).0 in
    (k.0, copies_all _ _ _ t k.0 p _ _ k.1 k.2 _ can k.3 (none_left t p k.1 c.pages.page-index c.args.settled.now k.4 c.pages-test.false))

pub returns-clause-place : goal.returns-clause-place
returns-clause-place g c = let i = c.pages.invariant in record { root = i.root; trapframe = i.trapframe; layout = i.layout }

pub returns-clause-keeps : goal.returns-clause-keeps
returns-clause-keeps g c = c.pages.invariant.keeps

pub returns-clause-free : goal.returns-clause-free
returns-clause-free g c = c.pages.invariant.free
