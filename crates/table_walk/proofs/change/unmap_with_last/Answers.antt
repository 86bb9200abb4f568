use Rattle.std.proofs.Common.{◌≡◌, refl, sym, subst, None}
use Rattle.std.specs.FinMap.{get}
use Rattle.frame_store.specs.View.{with_word}
use Rattle.sv39_entry.specs.Address.{vpn}
use Rattle.table_walk.specs.LastTables.{IsLastTable}
use Rattle.table_walk.specs.Tables.{ChangesTables, HasTables, Tables, last_table, walk_leaf, without_leaf}
use Rattle.table_walk.specs.Keys.{remove_same, remove_other}
use Rattle.table_walk.proofs.Grown.{no_change}
use Rattle.table_walk.proofs.LeafChanges.{drop_none, drop_page, maps_nothing, others_stay, word_changes}
use Rattle.table_walk.proofs.change.unmap_with_last.Given as given
use Rattle.table_walk.proofs.change.unmap_with_last.Goals as goal
use Rattle.table_walk.proofs.change.unmap_with_last.Goals.{After-from_residual, After-store}

-- there is no leaf

no_leaf : (g : given.Over) (c : After-from_residual g) (t : Tables) → HasTables c.args.scheme (g.F.Seat.FrameSeat.view c.args.seat.now) c.args.root.0 t → IsLastTable c.args.scheme t c.args.last.now
    → get t.leaves (walk_leaf c.args.scheme c.args.page) ≡ None
no_leaf g c t h k = sym (c.in_err-table.ensures.leaf t h k)

pub returns-in_err-table-clause-tables : goal.returns-in_err-table-clause-tables
returns-in_err-table-clause-tables g c t h k = rw c.leaf_in_table.ensures.view (drop_none _ _ t h c.args.page (no_leaf g c t h k), no_change _ t)

pub returns-in_err-table-clause-here : goal.returns-in_err-table-clause-here
returns-in_err-table-clause-here g c =
    let h = c.requires.held in
    rw c.leaf_in_table.ensures.view (maps_nothing _ _ h.0 h.1 c.args.page (no_leaf g c h.0 h.1 h.2))

-- and else 0 is stored

stored : (g : given.Over) (c : After-store g)
    → g.F.Seat.FrameSeat.view c.store.new.seat ≡ with_word c.in_ok-table.table.0 (vpn c.args.page 0) 0 (g.F.Seat.FrameSeat.view c.args.seat.now)
stored g c = rw (c.store.ensures.view, c.index.ensures.value, c.leaf_in_table.ensures.view) refl

changed : (g : given.Over) (c : After-store g) (t : Tables) → HasTables c.args.scheme (g.F.Seat.FrameSeat.view c.args.seat.now) c.args.root.0 t → IsLastTable c.args.scheme t c.args.last.now
    → HasTables c.args.scheme (g.F.Seat.FrameSeat.view c.store.new.seat) c.args.root.0 (without_leaf t (walk_leaf c.args.scheme c.args.page))
changed g c t h k = drop_page _ c.args.root.0 t h c.args.page _ (c.in_ok-table.ensures.table t h k) _ (stored g c)

pub returns-clause-tables : goal.returns-clause-tables
returns-clause-tables g c t h k =
    let changes = word_changes _ _ t t 0 (no_change _ t) (last_table c.args.scheme c.args.page) _ (vpn c.args.page 0) 0 (c.in_ok-table.ensures.table t h k) in
    (changed g c t h k, subst (λ w. ChangesTables (g.F.Seat.FrameSeat.view c.args.seat.now) w t t 0) (sym (stored g c)) changes)

pub returns-clause-here : goal.returns-clause-here
returns-clause-here g c =
    let t = c.requires.held.0 in
    maps_nothing _ _ _ (changed g c t c.requires.held.1 c.requires.held.2) c.args.page (remove_same t.leaves _ _ refl)

pub returns-clause-others : goal.returns-clause-others
returns-clause-others g c =
    let t = c.requires.held.0 in
    others_stay _ _ _ t _ c.requires.held.1 (changed g c t c.requires.held.1 c.requires.held.2) c.args.page (λ n ne. remove_other t.leaves _ n ne)
