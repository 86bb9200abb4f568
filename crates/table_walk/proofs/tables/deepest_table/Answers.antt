use Rattle.std.proofs.Common.{◌≡◌, ◌-◌, refl, ap, sym, ◌∙◌, arith}
use Rattle.std.specs.FinMap.{get}
use Rattle.std.specs.Prelude.{option_map}
use Rattle.frame_store.specs.Laws.{fits_after}
use Rattle.sv39_entry.specs.Schemes.{top_level}
use Rattle.table_walk.specs.Tables.{HasTables, Tables, node}
use Rattle.table_walk.proofs.Children.{next_depth, next_is_table, next_node}
use Rattle.table_walk.proofs.tables.deepest_table.Given as given
use Rattle.table_walk.proofs.tables.deepest_table.Goals as goal
use Rattle.table_walk.proofs.tables.deepest_table.Goals.{After-child}

-- the table of the next level, whatever is known of the others
found : (g : given.Over) (c : After-child g) (t : Tables) → HasTables c.args.scheme (g.F.Seat.FrameSeat.view c.args.seat.now) c.args.root.0 t
    → option_map (λ f. f.0) c.child.result ≡ get t.tables (node c.args.scheme c.args.page ((top_level c.args.scheme) - (c.levels.level - 1)))
found g c t h =
    let i = c.levels.invariant in
    c.child.ensures.child c.args.scheme c.args.root.0 (node c.args.scheme c.args.page ((top_level c.args.scheme) - c.levels.level)) t (rw i.view h) (i.way t h)
    (rw c.index.ensures.value (next_is_table c.args.scheme c.levels.level c.levels-test.true (rw c.top_level-top.ensures.value at c.levels.auto.level) c.args.page))
    ∙ ap (get t.tables) (rw c.index.ensures.value (next_node c.args.scheme c.levels.level c.levels-test.true (rw c.top_level-top.ensures.value at c.levels.auto.level) c.args.page))

pub levels-init : goal.levels-init
levels-init g c = record { view = refl; same = refl; keeps = λ others r. r; way = λ t h. (let none : top_level c.args.scheme - c.top_level-top.result ≡ 0 = omega (arith, c.top_level-top.ensures.value) in rw none h.known.rooted) }

pub child-requires-clause-fits : goal.child-requires-clause-fits
child-requires-clause-fits g c = fits_after g.F.FrameAccess.invariant c.levels.invariant.keeps c.requires.fits

pub child-requires-clause-held : goal.child-requires-clause-held
child-requires-clause-held g c =
    let h = c.requires.held in
    let i = c.levels.invariant in (
      c.args.scheme,
      c.args.root.0,
      node c.args.scheme c.args.page ((top_level c.args.scheme) - c.levels.level),
      h.0,
      rw i.view h.1,
      i.way h.0 h.1,
      rw c.index.ensures.value (next_is_table c.args.scheme c.levels.level c.levels-test.true (rw c.top_level-top.ensures.value at c.levels.auto.level) c.args.page),
    )

pub returns-in-None-clause-there : goal.returns-in-None-clause-there
returns-in-None-clause-there g c t h = c.levels.invariant.way t h

pub returns-in-None-clause-last : goal.returns-in-None-clause-last
returns-in-None-clause-last g c t h some =
    let none = rw c.in-None.is at (found g (goal.at.returns-in-None-clause-last g c).After-child t h) in
    let depth = next_depth c.args.scheme c.levels.level c.levels-test.true (rw c.top_level-top.ensures.value at c.levels.auto.level) in
    sym (rw depth at none)

pub returns-in-None-clause-view : goal.returns-in-None-clause-view
returns-in-None-clause-view g c = c.child.ensures.view ∙ c.levels.invariant.view

pub returns-in-None-clause-same : goal.returns-in-None-clause-same
returns-in-None-clause-same g c = c.child.ensures.same ∙ c.levels.invariant.same

pub returns-in-None-clause-keeps : goal.returns-in-None-clause-keeps
returns-in-None-clause-keeps g c others r = c.child.ensures.keeps others (c.levels.invariant.keeps others r)

pub levels-preserved : goal.levels-preserved
levels-preserved g c =
    let i = c.levels.invariant in
    record {
      view = c.child.ensures.view ∙ i.view;
      same = c.child.ensures.same ∙ i.same;
      keeps = λ others r. c.child.ensures.keeps others (i.keeps others r);
      way = λ t h. sym (rw c.in-Some.is at (found g (goal.at.levels-preserved g c).After-child t h));
    }

pub returns-clause-there : goal.returns-clause-there
returns-clause-there g c t h =
    let low : c.levels.level ≡ 0 = omega (arith, c.levels-test.false) in
    rw low at (c.levels.invariant.way t h)

pub returns-clause-view : goal.returns-clause-view
returns-clause-view g c = c.levels.invariant.view

pub returns-clause-same : goal.returns-clause-same
returns-clause-same g c = c.levels.invariant.same

pub returns-clause-keeps : goal.returns-clause-keeps
returns-clause-keeps g c = c.levels.invariant.keeps
