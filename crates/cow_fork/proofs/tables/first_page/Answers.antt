use Rattle.std.proofs.Common.{◌≡◌, ◌≤◌, rules, refl}
use Rattle.cow_fork.proofs.Listing.{no_page, page_at_edge, page_before}
use Rattle.cow_fork.proofs.tables.first_page.Goals as goal
use Rattle.sv39_entry.specs.Schemes.{trapframe_page, page_at, edge_at}

pub returns-in-Some-clause-page : goal.returns-in-Some-clause-page
returns-in-Some-clause-page g c t h edged =
    let from : c.in_ok-first.first ≡ c.args.from = search rules in
    let next = rw from at c.in-Some.ensures.leaf t h in
    page_before c.args.scheme t c.args.from c.args.end c.in-Some.found.0 c.in-Some.found.1 next

pub returns-then-from-number-clause-page : goal.returns-then-from-number-clause-page
returns-then-from-number-clause-page g c t h edged =
    let from : c.in_ok-first.first ≡ c.args.from = search rules in
    let none = rw from at c.in_default.ensures.leaf t h in
    let edge = edge_at refl _ _ c.page-trapframe.ensures.number c.trapframe.ensures in
    let late : c.args.from ≤ trapframe_page c.args.scheme = rw (c.number.ensures.value, edge) at c.if-from-number.true in
    rw edge (page_at_edge c.args.scheme t c.args.from c.args.end none edged late)

pub next_leaf_before-requires-2-clause-held : goal.next_leaf_before-requires-2-clause-held
next_leaf_before-requires-2-clause-held g c = let r = c.requires.held in (r.0, rw c.next_leaf_before.ensures.view r.1)

pub returns-in_err-page-clause-page : goal.returns-in_err-page-clause-page
returns-in_err-page-clause-page g c t h edged =
    let from : c.in_ok-first.first ≡ c.args.from = search rules in
    let next = rw (from, c.number-behind.ensures.value, page_at _ _ _ c.page.ensures.number c.trampoline.ensures) at c.in_err-page.ensures.leaf t (rw c.next_leaf_before.ensures.view h) in
    rw c.from_residual-in_err-page.ensures (no_page c.args.scheme t c.args.from c.args.end next edged)

pub returns-clause-page : goal.returns-clause-page
returns-clause-page g c t h edged =
    let from : c.in_ok-first.first ≡ c.args.from = search rules in
    let next = rw from at c.in_ok-page.ensures.leaf t (rw c.next_leaf_before.ensures.view h) in
    page_before c.args.scheme t c.args.from _ c.in_ok-page.page _ next
