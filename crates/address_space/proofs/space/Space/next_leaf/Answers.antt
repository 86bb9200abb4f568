use Rattle.std.proofs.Common.{arith, sym, ◌<◌, ◌≡◌, ◌∙◌, refl, Some}
use Rattle.std.specs.FinMap.{get}
use Rattle.address_space.specs.Agreement.{same_body}
use Rattle.address_space.proofs.LowLeaves.{below_trapframe, number_is}
use Rattle.address_space.proofs.space.Space.next_leaf.Goals as goal
use Rattle.frame_store.specs.Laws.{fits_after}
use Rattle.sv39_entry.specs.Schemes.{trapframe_page}
use Rattle.table_walk.specs.LastTables.{last_of_scheme}
use Rattle.table_walk.specs.LowPages.{tables_of_scheme}
use Rattle.table_walk.specs.Tables.{leaf_node}

pub leaf_before-requires-clause-held : goal.leaf_before-requires-clause-held
leaf_before-requires-clause-held g c =
    let r = c.requires.ready in
    let same = r.2.lays.scheme ∙ sym c.scheme-scheme.ensures in
    (r.0, tables_of_scheme same r.2.stands.tables, last_of_scheme r.0 c.args.last.now same r.3)

pub returns-in-Some-clause-leaf : goal.returns-in-Some-clause-leaf
returns-in-Some-clause-leaf g c t p space k =
    let same = space.lays.scheme ∙ sym c.scheme-scheme.ensures in
    let there = rw (c.in-Some.is, c.number.ensures.value) at c.leaf_before.ensures.leaf t (tables_of_scheme same space.stands.tables) (last_of_scheme t c.args.last.now same k) in
    let low : c.args.first < trapframe_page p.scheme = below_trapframe space.lays.scheme (omega (arith, there.0, c.requires.low)) in
    let leaf : get t.leaves (leaf_node c.args.first) ≡ Some c.in-Some.leaf = rw (number_is c.args.first same low) at there.1 in
    let less : c.args.first < c.args.end = there.0 in
    (omega arith, less, leaf, λ n from below. absurd (omega (arith, from, below)))

pub returns-in-Some-clause-kept : goal.returns-in-Some-clause-kept
returns-in-Some-clause-kept g c t p space k =
    let same = space.lays.scheme ∙ sym c.scheme-scheme.ensures in
    last_of_scheme t c.leaf_before.new.last (sym same) (c.leaf_before.ensures.kept t (tables_of_scheme same space.stands.tables) (last_of_scheme t c.args.last.now same k))

pub search_leaf-requires-clause-fits : goal.search_leaf-requires-clause-fits
search_leaf-requires-clause-fits g c = fits_after g.F.FrameAccess.invariant c.leaf_before.ensures.keeps c.requires.fits

-- the space after the try of the first page has the body that it had
pub search_leaf-requires-clause-ready : goal.search_leaf-requires-clause-ready
search_leaf-requires-clause-ready g c =
    let r = c.requires.ready in
    let body = same_body g.S.FrameSeat.view (record c.args.self.now { seat = c.leaf_before.new.seat }) c.args.self.now c.leaf_before.ensures.view refl refl refl in
    (r.0, r.1, rw body r.2)

pub returns-clause-leaf : goal.returns-clause-leaf
returns-clause-leaf g c t p space k =
    let body = same_body g.S.FrameSeat.view (record c.args.self.now { seat = c.leaf_before.new.seat }) c.args.self.now c.leaf_before.ensures.view refl refl refl in
    c.search_leaf.ensures.leaf t p (rw body space)

pub returns-clause-kept : goal.returns-clause-kept
returns-clause-kept g c t p space k =
    let same = space.lays.scheme ∙ sym c.scheme-scheme.ensures in
    last_of_scheme t c.leaf_before.new.last (sym same) (c.leaf_before.ensures.kept t (tables_of_scheme same space.stands.tables) (last_of_scheme t c.args.last.now same k))

pub returns-clause-keeps : goal.returns-clause-keeps
returns-clause-keeps g c others r = c.search_leaf.ensures.keeps others (c.leaf_before.ensures.keeps others r)
