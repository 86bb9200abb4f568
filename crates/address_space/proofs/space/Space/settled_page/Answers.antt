use Rattle.std.proofs.Common.{sym, ◌∙◌}
use Rattle.address_space.proofs.SettledPages.{names_frame, no_leaf, page_is}
use Rattle.address_space.proofs.space.Space.settled_page.Goals as goal
use Rattle.address_space.proofs.LowLeaves.{below_trapframe, number_is}
use Rattle.table_walk.specs.LowPages.{tables_of_scheme}

pub returns-in_err-leaf-clause-page : goal.returns-in_err-leaf-clause-page
returns-in_err-leaf-clause-page g c t p space =
    let same = space.lays.scheme ∙ sym c.scheme-scheme.ensures in
    let low = below_trapframe space.lays.scheme c.requires.low in
    rw c.from_residual.ensures (no_leaf _ _ _ _ t p space c.args.page (sym (rw (number_is c.args.page same low) at (c.in_err-leaf.ensures.leaf t (tables_of_scheme same space.stands.tables)))))

pub settled_by-requires : goal.settled_by-requires
settled_by-requires g c =
    let r = c.requires.ready in
    let same = r.2.lays.scheme ∙ sym c.scheme-scheme.ensures in
    let low = below_trapframe r.2.lays.scheme c.requires.low in
    names_frame _ _ _ _ r.0 r.1 r.2 c.args.page c.in_ok-leaf.leaf low (sym (rw (number_is c.args.page same low) at (c.in_ok-leaf.ensures.leaf r.0 (tables_of_scheme same r.2.stands.tables))))

pub returns-clause-page : goal.returns-clause-page
returns-clause-page g c t p space =
    let same = space.lays.scheme ∙ sym c.scheme-scheme.ensures in
    let low = below_trapframe space.lays.scheme c.requires.low in
    let leaf = sym (rw (number_is c.args.page same low) at (c.in_ok-leaf.ensures.leaf t (tables_of_scheme same space.stands.tables))) in
    let x = c.settled_by.ensures in
    (x.page, page_is _ _ _ _ t p space c.args.page c.in_ok-leaf.leaf low leaf c.settled_by.result x.page x.frame x.cow x.dirty)

pub leaf_of-requires-clause-held : goal.leaf_of-requires-clause-held
leaf_of-requires-clause-held g c = let r = c.requires.ready in (r.0, tables_of_scheme (r.2.lays.scheme ∙ sym c.scheme-scheme.ensures) r.2.stands.tables)
