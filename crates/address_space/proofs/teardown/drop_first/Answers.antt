use Rattle.std.proofs.Common.{◌∙◌, refl, arith, None, Some}
use Rattle.frame_store.specs.Laws.{fits_after}
use Rattle.table_walk.specs.TableChanges.{IsNextLeafBefore}
use Rattle.address_space.proofs.DroppedPages.{first_is_mapped, goes_first}
use Rattle.address_space.proofs.teardown.drop_first.Goals as goal
use Rattle.sv39_entry.specs.Schemes.{of_scheme}

pub returns-in_err-page-clause-dropped : goal.returns-in_err-page-clause-dropped
returns-in_err-page-clause-dropped g c t h may k =
    let high = c.in_err-page.ensures in
    let low = c.requires.low in
    let facts = of_scheme c.args.scheme in
    rw c.from_residual.ensures (λ n from less. absurd (high (omega (arith, low, from, less, facts))), refl)

pub drop_leaf-requires-clause-ready : goal.drop_leaf-requires-clause-ready
drop_leaf-requires-clause-ready g c = let r = c.requires.ready in (r.0, r.1, r.2 c.in_ok-page.page, r.3)

pub returns-then-drop_leaf-clause-dropped : goal.returns-then-drop_leaf-clause-dropped
returns-then-drop_leaf-clause-dropped g c t h may k =
    let from = (c.in_ok-page.ensures).1 in
    let gone = rw from at (c.if-drop_leaf.ensures.dropped t h (may c.in_ok-page.page) k) in
    let found = goes_first t c.args.first c.args.end gone.0 gone.1 in
    (found.0, found.1, gone.2)

pub next_leaf_before-requires-clause-held : goal.next_leaf_before-requires-clause-held
next_leaf_before-requires-clause-held g c =
    let r = c.requires.ready in
    let same = (c.if-drop_leaf.ensures.dropped r.0 r.1 (r.2 c.in_ok-page.page) r.3).1 in
    (r.0, rw same r.1)

pub returns-in_err-page-2-clause-dropped : goal.returns-in_err-page-2-clause-dropped
returns-in_err-page-2-clause-dropped g c t h may k =
    let from = (c.in_ok-page.ensures).1 in
    let same = (c.if-drop_leaf.ensures.dropped t h (may c.in_ok-page.page) k).1 in
    let none : IsNextLeafBefore c.args.scheme t c.args.first c.args.end None = rw from at (c.in_err-page-2.ensures.leaf t (rw same h)) in
    rw c.from_residual-in_err-page-2.ensures (first_is_mapped c.args.scheme t c.args.first c.args.end None none, c.next_leaf_before.ensures.view ∙ same)

pub returns-in_err-page-2-clause-keeps : goal.returns-in_err-page-2-clause-keeps
returns-in_err-page-2-clause-keeps g c others r = c.next_leaf_before.ensures.keeps others (c.drop_leaf.ensures.keeps others r)

pub drop_leaf-requires-2-clause-fits : goal.drop_leaf-requires-2-clause-fits
drop_leaf-requires-2-clause-fits g c =
    fits_after g.F.FrameAccess.invariant c.next_leaf_before.ensures.keeps (fits_after g.F.FrameAccess.invariant c.drop_leaf.ensures.keeps c.requires.fits)

pub drop_leaf-requires-2-clause-ready : goal.drop_leaf-requires-2-clause-ready
drop_leaf-requires-2-clause-ready g c =
    let r = c.requires.ready in
    let same = (c.if-drop_leaf.ensures.dropped r.0 r.1 (r.2 c.in_ok-page.page) r.3).1 in
    let still = c.next_leaf_before.ensures.view ∙ same in
    (r.0, rw still r.1, rw still (r.2 c.in_ok-page-2.page), c.drop_leaf.ensures.kept r.0 r.1 r.3)

pub unreachable-requires : goal.unreachable-requires
unreachable-requires g c =
    let r = c.requires.ready in
    let from = (c.in_ok-page.ensures).1 in
    let same = (c.if-drop_leaf.ensures.dropped r.0 r.1 (r.2 c.in_ok-page.page) r.3).1 in
    let still = c.next_leaf_before.ensures.view ∙ same in
    let next : IsNextLeafBefore c.args.scheme r.0 c.args.first c.args.end (Some (c.in_ok-page-2.page, c.in_ok-page-2.field-0-1)) = rw from at (c.in_ok-page-2.ensures.leaf r.0 (rw same r.1)) in
    let found = first_is_mapped c.args.scheme r.0 c.args.first c.args.end (Some (c.in_ok-page-2.page, c.in_ok-page-2.field-0-1)) next in
    let none = (c.if-not-drop_leaf.ensures.dropped r.0 (rw still r.1) (rw still (r.2 c.in_ok-page-2.page)) (c.drop_leaf.ensures.kept r.0 r.1 r.3)).0 found.1 in
    let there = found.2 in
    cc

pub returns-clause-dropped : goal.returns-clause-dropped
returns-clause-dropped g c t h may k =
    let from = (c.in_ok-page.ensures).1 in
    let same = (c.if-drop_leaf.ensures.dropped t h (may c.in_ok-page.page) k).1 in
    let still = c.next_leaf_before.ensures.view ∙ same in
    let next : IsNextLeafBefore c.args.scheme t c.args.first c.args.end (Some (c.in_ok-page-2.page, c.in_ok-page-2.field-0-1)) = rw from at (c.in_ok-page-2.ensures.leaf t (rw same h)) in
    let found = first_is_mapped c.args.scheme t c.args.first c.args.end (Some (c.in_ok-page-2.page, c.in_ok-page-2.field-0-1)) next in
    let gone = rw still at (c.if-not-drop_leaf.ensures.dropped t (rw still h) (rw still (may c.in_ok-page-2.page)) (c.drop_leaf.ensures.kept t h k)) in
    rw c.number.ensures.value (c.in_ok-page-2.field-0-1, found, gone.2)

pub returns-clause-keeps : goal.returns-clause-keeps
returns-clause-keeps g c others r = c.drop_leaf-2.ensures.keeps others (c.next_leaf_before.ensures.keeps others (c.drop_leaf.ensures.keeps others r))

pub returns-clause-kept : goal.returns-clause-kept
returns-clause-kept g c t h may k =
    let same = (c.if-drop_leaf.ensures.dropped t h (may c.in_ok-page.page) k).1 in
    let still = c.next_leaf_before.ensures.view ∙ same in
    c.drop_leaf-2.ensures.kept t (rw still h) (c.drop_leaf.ensures.kept t h k)
