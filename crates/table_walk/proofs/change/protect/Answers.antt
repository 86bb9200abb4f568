use Rattle.std.proofs.Common.{◌≡◌, refl, sym, subst, rules, Some}
use Rattle.std.specs.FinMap.{get}
use Rattle.frame_store.specs.View.{with_word}
use Rattle.sv39_entry.specs.Address.{vpn}
use Rattle.table_walk.specs.Tables.{ChangesTables, HasTables, Tables, last_table, walk_leaf, with_leaf}
use Rattle.table_walk.specs.Keys.{insert_same, insert_other}
use Rattle.table_walk.proofs.Grown.{no_change}
use Rattle.table_walk.proofs.LeafChanges.{maps_leaf, no_table, others_stay, put_page, word_changes}
use Rattle.table_walk.proofs.change.protect.Given as given
use Rattle.table_walk.proofs.change.protect.Goals as goal
use Rattle.table_walk.proofs.change.protect.Goals.{After-store, In_default}

stored : (g : given.Over) (c : After-store g)
    → g.F.Seat.FrameSeat.view c.store.new.seat ≡ with_word c.in-Some.table.0 (vpn c.args.page 0) c.args.leaf (g.F.Seat.FrameSeat.view c.args.seat.now)
stored g c = search rules

table : (g : given.Over) (c : After-store g) (t : Tables) → HasTables c.args.scheme (g.F.Seat.FrameSeat.view c.args.seat.now) c.args.root.0 t
    → get t.tables (last_table c.args.scheme c.args.page) ≡ Some c.in-Some.table.0
table g c t h = sym (c.in-Some.ensures.table t h)

changed : (g : given.Over) (c : After-store g) (t : Tables) → HasTables c.args.scheme (g.F.Seat.FrameSeat.view c.args.seat.now) c.args.root.0 t
    → HasTables c.args.scheme (g.F.Seat.FrameSeat.view c.store.new.seat) c.args.root.0 (with_leaf t (walk_leaf c.args.scheme c.args.page) c.args.leaf)
changed g c t h = put_page _ c.args.root.0 t h c.args.page _ (table g c t h) _ c.args.leaf c.requires.leaf (stored g c)

pub returns-in-Some-clause-tables : goal.returns-in-Some-clause-tables
returns-in-Some-clause-tables g c t h =
    let changes = word_changes _ _ t t 0 (no_change _ t) (last_table c.args.scheme c.args.page) _ (vpn c.args.page 0) c.args.leaf (table g c t h) in
    (changed g c t h, subst (λ w. ChangesTables (g.F.Seat.FrameSeat.view c.args.seat.now) w t t 0) (sym (stored g c)) changes)

pub returns-in-Some-clause-here : goal.returns-in-Some-clause-here
returns-in-Some-clause-here g c =
    let t = c.requires.mapped.0 in
    maps_leaf _ _ _ (changed g c t c.requires.mapped.1) c.args.page c.args.leaf (insert_same t.leaves _ c.args.leaf _ refl)

pub returns-in-Some-clause-others : goal.returns-in-Some-clause-others
returns-in-Some-clause-others g c =
    let t = c.requires.mapped.0 in
    others_stay _ _ _ t _ c.requires.mapped.1 (changed g c t c.requires.mapped.1) c.args.page (λ n ne. insert_other t.leaves _ c.args.leaf n ne)

-- a page that is mapped has a last table
never : (g : given.Over) (c : In_default g) → ⊥
never g c =
    let mapped = c.requires.mapped in
    let none = no_table _ _ mapped.0 mapped.1 c.args.page (sym (c.in_default.ensures.table mapped.0 mapped.1)) in
    let some = rw none at mapped.2 in
    cc

pub returns-in_default-clause-tables : goal.returns-in_default-clause-tables
returns-in_default-clause-tables g c = absurd (never g c)

pub returns-in_default-clause-here : goal.returns-in_default-clause-here
returns-in_default-clause-here g c = absurd (never g c)
