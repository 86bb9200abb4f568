use Rattle.address_space.proofs.Writing.{page_found, page_here, page_on}
use Rattle.address_space.proofs.space.Space.page_frame.Goals as goal
use Rattle.address_space.proofs.LowLeaves.{settled_number, number_of_scheme}
use Rattle.std.proofs.Common.{sym, ◌∙◌}
use Rattle.table_walk.specs.LowPages.{tables_of_scheme}

pub unreachable-requires : goal.unreachable-requires
unreachable-requires g c =
    let r = c.requires.ready in
    let stands = r.3.standing.stands in
    let same = r.3.standing.lays.scheme ∙ sym c.scheme-scheme.ensures in
    let here = page_here _ _ _ _ r.0 r.1 _ r.2 stands r.3.settled in
    let some = page_found _ r.0 r.1 _ r.2 here.0 here.1 c.frame_of.result (rw (number_of_scheme c.args.page same (settled_number _ _ r.0 r.1 c.args.page r.2 stands.shows r.3.settled)) at (c.frame_of.ensures.frame r.0 (tables_of_scheme same stands.tables))) in
    cc (some, c.in_default.is)

pub returns-clause-frame : goal.returns-clause-frame
returns-clause-frame g c t p s can =
    let stands = can.standing.stands in
    let same = can.standing.lays.scheme ∙ sym c.scheme-scheme.ensures in
    let here = page_here _ _ _ _ t p _ s stands can.settled in
    let on = page_on _ t p _ s here.0 here.1 c.frame_of.result (rw (number_of_scheme c.args.page same (settled_number _ _ t p c.args.page s stands.shows can.settled)) at (c.frame_of.ensures.frame t (tables_of_scheme same stands.tables))) _ c.in-Some.is in
    (on.leaf, on.mapped, on.made.names)

pub frame_of-requires-clause-held : goal.frame_of-requires-clause-held
frame_of-requires-clause-held g c = let r = c.requires.ready in (r.0, tables_of_scheme (r.3.standing.lays.scheme ∙ sym c.scheme-scheme.ensures) r.3.standing.stands.tables)
