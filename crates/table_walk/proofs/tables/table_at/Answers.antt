use Rattle.std.proofs.Common.{◌≡◌, ◌+◌, suc, refl, ap, sym, ◌∙◌, arith}
use Rattle.std.specs.FinMap.{get}
use Rattle.std.specs.Prelude.{option_map}
use Rattle.table_walk.specs.Nodes.{table_number}
use Rattle.table_walk.specs.Tables.{HasTables, Tables, node}
use Rattle.table_walk.proofs.Children.{missing_at}
use Rattle.table_walk.proofs.tables.table_at.Given as given
use Rattle.table_walk.proofs.tables.table_at.Goals as goal
use Rattle.table_walk.proofs.tables.table_at.Goals.{After-child}

-- the table that is one deeper
found : (g : given.Over) (c : After-child g) (t : Tables) → HasTables c.args.scheme (g.F.Seat.FrameSeat.view c.args.seat.now) c.args.root.0 t
    → option_map (λ f. f.0) c.child.result ≡ get t.tables (node c.args.scheme c.args.page (suc c.depths.step))
found g c t h =
    let i = c.depths.invariant in
    let low = c.requires.low in
    let test = c.depths-test.true in
    c.child.ensures.child c.args.scheme c.args.root.0 (node c.args.scheme c.args.page c.depths.step) t (rw i.view h) (i.way t h)
    (rw (c.index.ensures.value, c.top_level-top.ensures.value) (table_number c.args.scheme c.args.page (suc c.depths.step) (omega (arith, low, test))))
    ∙ ap (get t.tables) (rw (c.index.ensures.value, c.top_level-top.ensures.value) refl)

pub child-requires-clause-held : goal.child-requires-clause-held
child-requires-clause-held g c =
    let h = c.requires.held in
    let i = c.depths.invariant in
    let low = c.requires.low in
    let test = c.depths-test.true in (
      c.args.scheme,
      c.args.root.0,
      node c.args.scheme c.args.page c.depths.step,
      h.0,
      rw i.view h.1,
      i.way h.0 h.1,
      rw (c.index.ensures.value, c.top_level-top.ensures.value) (table_number c.args.scheme c.args.page (suc c.depths.step) (omega (arith, low, test))),
    )

pub returns-in_err-table-clause-table : goal.returns-in_err-table-clause-table
returns-in_err-table-clause-table g c t h =
    let none = rw c.in_err-table.was at (found g (goal.at.returns-in_err-table-clause-table g c).After-child t h) in
    let test = c.depths-test.true in
    rw c.from_residual.ensures (sym (missing_at _ _ t h.known c.args.page (suc c.depths.step) c.args.depth (omega (arith, test)) (sym none)))

pub depths-preserved : goal.depths-preserved
depths-preserved g c =
    let i = c.depths.invariant in
    let more : c.depths.step + 1 ≡ suc c.depths.step = omega arith in
    record {
      view = c.child.ensures.view ∙ i.view;
      same = c.child.ensures.same ∙ i.same;
      keeps = λ others r. c.child.ensures.keeps others (i.keeps others r);
      way = λ t h. rw more (sym (rw c.in_ok-table.was at (found g (goal.at.depths-preserved g c).After-child t h)));
    }
