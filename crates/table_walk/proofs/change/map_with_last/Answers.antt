use Rattle.std.proofs.Common.{◌≡◌, ap, refl, sym, subst, ◌∙◌, rules}
use Rattle.std.specs.FinMap.{get}
use Rattle.frame_store.specs.View.{with_word}
use Rattle.sv39_entry.specs.Address.{vpn}
use Rattle.sv39_entry.specs.Schemes.{top_level}
use Rattle.table_walk.specs.LastTables.{IsLastTable}
use Rattle.table_walk.specs.Tables.{ChangesTables, HasTables, Tables, IsGrown, last_table, walk_leaf, missing, with_leaf}
use Rattle.table_walk.proofs.Grown.{still_anchored}
use Rattle.table_walk.specs.Keys.{insert_same, insert_other}
use Rattle.table_walk.proofs.LeafChanges.{maps_leaf, others_stay, put_page, word_changes}
use Rattle.table_walk.proofs.change.map_with_last.Given as given
use Rattle.table_walk.proofs.change.map_with_last.Goals as goal
use Rattle.table_walk.proofs.change.map_with_last.Goals.{After-store}

stored : (g : given.Over) (c : After-store g) → g.F.Seat.FrameSeat.view c.store.new.seat
    ≡ with_word c.grown_with_last-table.result.0 (vpn c.args.page 0) c.args.leaf (g.F.Seat.FrameSeat.view c.grown_with_last-table.new.seat)
stored g c = search rules

changed : (g : given.Over) (c : After-store g) (t : Tables) → HasTables c.args.scheme (g.F.Seat.FrameSeat.view c.args.seat.now) c.args.root.0 t → IsLastTable c.args.scheme t c.args.last.now
    → (u : Tables) × IsGrown c.args.scheme t u c.args.page (top_level c.args.scheme)
    × HasTables c.args.scheme (g.F.Seat.FrameSeat.view c.store.new.seat) c.args.root.0 (with_leaf u (walk_leaf c.args.scheme c.args.page) c.args.leaf)
    × ChangesTables (g.F.Seat.FrameSeat.view c.args.seat.now) (g.F.Seat.FrameSeat.view c.store.new.seat) t u (missing c.args.scheme t c.args.page) × IsLastTable c.args.scheme u c.grown_with_last-table.new.last
changed g c t h k =
    let x = c.grown_with_last-table.ensures.tables t h k in
    let u = x.0 in
    let changes = word_changes _ _ t u _ x.3 (last_table c.args.scheme c.args.page) _ (vpn c.args.page 0) c.args.leaf x.4 in (
      u,
      x.1,
      put_page _ c.args.root.0 u x.2 c.args.page _ x.4 _ c.args.leaf c.requires.leaf (stored g c),
      subst (λ w. ChangesTables (g.F.Seat.FrameSeat.view c.args.seat.now) w t u (missing c.args.scheme t c.args.page)) (sym (stored g c)) changes,
      x.5,
    )

pub returns-clause-tables : goal.returns-clause-tables
returns-clause-tables g c = changed g c

pub returns-clause-here : goal.returns-clause-here
returns-clause-here g c =
    let x = changed g c c.requires.tables.0 c.requires.tables.1 c.requires.tables.2 in
    maps_leaf _ _ _ x.2 c.args.page c.args.leaf (insert_same x.0.leaves _ c.args.leaf _ refl)

pub returns-clause-others : goal.returns-clause-others
returns-clause-others g c =
    let t = c.requires.tables.0 in
    let x = changed g c t c.requires.tables.1 c.requires.tables.2 in
    others_stay _ _ _ t _ c.requires.tables.1 x.2 c.args.page
    (λ n ne. insert_other x.0.leaves _ c.args.leaf n ne ∙ ap (λ leaves. get leaves n) x.1.leaves)

pub returns-clause-anchored : goal.returns-clause-anchored
returns-clause-anchored g c =
    let x = changed g c c.requires.tables.0 c.requires.tables.1 c.requires.tables.2 in
    still_anchored _ _ _ _ _ x.3 (λ k f at. x.2.own k f at) c.requires.anchored
