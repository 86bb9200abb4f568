use Rattle.std.proofs.Common.{arith, min, sym, ◌∙◌, ap}
use Rattle.address_space.proofs.DroppedPages.{first_is_mapped}
use Rattle.address_space.proofs.SettledPages.{first_leaf}
use Rattle.address_space.proofs.space.Space.search_leaf.Goals as goal
use Rattle.sv39_entry.specs.Schemes.{trapframe_page, of_scheme}
use Rattle.table_walk.specs.LowPages.{tables_of_scheme}

pub next_leaf_before-requires-clause-held : goal.next_leaf_before-requires-clause-held
next_leaf_before-requires-clause-held g c =
    let r = c.requires.ready in
    (r.0, tables_of_scheme (r.2.lays.scheme ∙ sym c.scheme-scheme.ensures) r.2.stands.tables)

pub next_leaf_before-requires-clause-low : goal.next_leaf_before-requires-clause-low
next_leaf_before-requires-clause-low g c =
    omega (arith, c.requires.low, c.number.ensures.value, c.min-end.ensures, ap trapframe_page c.scheme-scheme.ensures, of_scheme c.scheme-scheme.result)

pub returns-clause-leaf : goal.returns-clause-leaf
returns-clause-leaf g c t p space =
    let next = rw (c.min-end.ensures, c.number.ensures.value) at c.next_leaf_before.ensures.leaf t (tables_of_scheme (space.lays.scheme ∙ sym c.scheme-scheme.ensures) space.stands.tables) in
    let found = first_is_mapped c.scheme-scheme.result t c.args.first (min c.args.end c.end.result) c.next_leaf_before.result next in
    first_leaf _ _ _ _ t p space c.end.result (c.end.ensures.end p space.lays space.sound.order) c.args.first c.args.end c.next_leaf_before.result found
