use Rattle.std.proofs.Common.{◌≡◌, ◌+◌, ◌*◌, ◌-◌, refl, ap, sym, ◌∙◌, arith, rules}
use Rattle.std.specs.FinMap.{get}
use Rattle.std.specs.Prelude.{option_map}
use Rattle.frame_store.specs.Laws.{fits_after}
use Rattle.sv39_entry.specs.Address.{vpn}
use Rattle.sv39_entry.specs.Schemes.{top_level}
use Rattle.sv39_entry.specs.declared.frame.FrameNo.{FrameNo}
use Rattle.table_walk.specs.Tables.{HasTables, Tables, node}
use Rattle.table_walk.proofs.Children.{next_is_table}
use Rattle.table_walk.proofs.Grown.{HasGrown, found_next, grown_none, made_next, next_credit, still_held, table_own}
use Rattle.table_walk.proofs.growth.grown_table.Given as given
use Rattle.table_walk.proofs.growth.grown_table.Goals as goal
use Rattle.table_walk.proofs.growth.grown_table.Goals.{After-child, in-None, in-Some}

-- the tables so far
so_far : (g : given.Over) (c : After-child g) (t : Tables) → HasTables c.args.scheme (g.F.Seat.FrameSeat.view c.args.seat.now) c.args.root.0 t
    → HasGrown c.args.scheme (g.F.Seat.FrameSeat.view c.args.seat.now) (g.F.Seat.FrameSeat.view c.levels.seat) c.args.root.0 t c.args.page
    ((top_level c.args.scheme) - c.levels.level) c.levels.table.0
so_far g c t h = c.levels.invariant.grown t h

-- what the entry of the next level's table says
found : (g : given.Over) (c : After-child g) (t : Tables) (h : HasTables c.args.scheme (g.F.Seat.FrameSeat.view c.args.seat.now) c.args.root.0 t)
    → option_map (λ f. f.0) c.child.result
    ≡ get (so_far g c t h).0.tables (node c.args.scheme c.args.page ((top_level c.args.scheme) - c.levels.level) * 512 + vpn c.args.page c.levels.level)
unfolding so_far
found g c t h =
    let p = c.levels.invariant.grown t h in
    rw c.index-index.ensures.value at (c.child.ensures.child c.args.scheme c.args.root.0 (node c.args.scheme c.args.page ((top_level c.args.scheme) - c.levels.level)) p.0 p.1.tables p.2
    (rw c.index-index.ensures.value (next_is_table c.args.scheme c.levels.level c.levels-test.true (rw c.top_level-top.ensures.value at c.levels.auto.level) c.args.page)))

pub levels-init : goal.levels-init
levels-init g c = record {
  anchored = c.requires.anchored;
  keeps = λ others r. r;
  free = λ a. refl;
  grown = λ t h.
      let none : top_level c.args.scheme - c.top_level-top.result ≡ 0 = omega (arith, c.top_level-top.ensures.value) in
      rw none (grown_none _ _ t c.args.page h);
}

pub child-requires-clause-fits : goal.child-requires-clause-fits
child-requires-clause-fits g c = fits_after g.F.FrameAccess.invariant c.levels.invariant.keeps c.requires.fits

pub child-requires-clause-held : goal.child-requires-clause-held
child-requires-clause-held g c =
    let h = c.requires.tables in
    let p = c.levels.invariant.grown h.0 h.1 in (
      c.args.scheme,
      c.args.root.0,
      node c.args.scheme c.args.page ((top_level c.args.scheme) - c.levels.level),
      p.0,
      p.1.tables,
      p.2,
      rw c.index-index.ensures.value (next_is_table c.args.scheme c.levels.level c.levels-test.true (rw c.top_level-top.ensures.value at c.levels.auto.level) c.args.page),
    )

pub new_child-table-requires-clause-fits : goal.new_child-table-requires-clause-fits
new_child-table-requires-clause-fits g c =
    fits_after g.F.FrameAccess.invariant c.child.ensures.keeps (fits_after g.F.FrameAccess.invariant c.levels.invariant.keeps c.requires.fits)

pub new_child-table-requires-clause-anchored : goal.new_child-table-requires-clause-anchored
new_child-table-requires-clause-anchored g c = rw c.child.ensures.view c.levels.invariant.anchored

pub new_child-table-requires-clause-credit : goal.new_child-table-requires-clause-credit
new_child-table-requires-clause-credit g c =
    let h = c.requires.tables in
    let after = (goal.at.new_child-table-requires-clause-credit g c).After-child in
    rw c.child.ensures.view
    (next_credit _ _ c.args.root.0 h.0 c.args.page c.levels.level c.levels.table.0 c.levels-test.true (rw c.top_level-top.ensures.value at c.levels.auto.level)
    (so_far g after h.0 h.1) (ap (option_map (λ (f : FrameNo). f.0)) (sym c.in-None.is) ∙ found g after h.0 h.1) h.2)

pub new_child-table-requires-clause-held : goal.new_child-table-requires-clause-held
new_child-table-requires-clause-held g c =
    let h = c.requires.tables in
    rw c.child.ensures.view
    (table_own _ _ c.args.root.0 h.0 c.args.page c.levels.level c.levels.table.0 c.levels-test.true (rw c.top_level-top.ensures.value at c.levels.auto.level)
    (c.levels.invariant.grown h.0 h.1)).0

pub new_child-table-requires-clause-sole : goal.new_child-table-requires-clause-sole
new_child-table-requires-clause-sole g c =
    let h = c.requires.tables in
    rw c.child.ensures.view
    (table_own _ _ c.args.root.0 h.0 c.args.page c.levels.level c.levels.table.0 c.levels-test.true (rw c.top_level-top.ensures.value at c.levels.auto.level)
    (c.levels.invariant.grown h.0 h.1)).1

pub levels-preserved : goal.levels-preserved
levels-preserved g c =
    let i = c.levels.invariant in
    let after = (goal.at.levels-preserved g c).After-child in
    elim c.match-child.branch [
      | in-Some w ↦ record {
        anchored = rw (w.seat-is, c.child.ensures.view) i.anchored;
        keeps = λ others r. rw (w.seat-is, w.store-is) (c.child.ensures.keeps others (i.keeps others r));
        free = λ a. rw (w.store-is, c.child.ensures.same) (i.free a);
        grown = λ t h. rw (w.seat-is, w.table-is, c.child.ensures.view)
            (found_next _ _ c.args.root.0 t c.args.page c.levels.level c.levels.table.0 c.levels-test.true (rw c.top_level-top.ensures.value at c.levels.auto.level)
            (so_far g after t h) w.in-Some.next.0 (ap (option_map (λ (f : FrameNo). f.0)) (sym w.in-Some.is) ∙ found g after t h));
      }
      | in-None w ↦
          let n = w.new_child-table in
          let fresh = rw c.child.ensures.view at n.ensures.fresh in
          let some = c.requires.tables in
          let p = i.grown some.0 some.1 in
          record {
            anchored = rw (w.seat-is, n.ensures.view, c.child.ensures.view)
                (still_held _ c.args.root.0 p.0 p.1.tables (node c.args.scheme c.args.page ((top_level c.args.scheme) - c.levels.level)) c.levels.table.0 _ n.result.0 p.2
                fresh 0 i.anchored);
            keeps = λ others r. rw (w.seat-is, w.store-is) (n.ensures.keeps others (c.child.ensures.keeps others (i.keeps others r)));
            free = λ a. rw w.store-is (n.ensures.free a ∙ ap g.F.FrameAccess.free c.child.ensures.same ∙ i.free a);
            grown = λ t h. rw (w.seat-is, w.table-is, n.ensures.view, c.child.ensures.view, c.index-index.ensures.value)
                (made_next _ _ c.args.root.0 t c.args.page c.levels.level c.levels.table.0 c.levels-test.true (rw c.top_level-top.ensures.value at c.levels.auto.level) (so_far g after t h)
                (ap (option_map (λ (f : FrameNo). f.0)) (sym w.in-None.is) ∙ found g after t h) n.result.0 fresh (search rules));
          }
    ]

pub returns-clause-tables : goal.returns-clause-tables
returns-clause-tables g c t h =
    let low : c.levels.level ≡ 0 = omega (arith, c.levels-test.false) in
    let all : top_level c.args.scheme - c.levels.level ≡ top_level c.args.scheme = omega (arith, low) in
    let p = rw all at (c.levels.invariant.grown t h) in
    (p.0, p.1.grown, p.1.tables, p.1.changes, p.2)

pub returns-clause-keeps : goal.returns-clause-keeps
returns-clause-keeps g c = c.levels.invariant.keeps

pub returns-clause-free : goal.returns-clause-free
returns-clause-free g c = c.levels.invariant.free
