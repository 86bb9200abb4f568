use Rattle.std.proofs.Common.{arith}
use Rattle.address_space.proofs.LowLeaves.{up_to_trapframe}
use Rattle.address_space.proofs.SettledPages.{low_page, names_frame, next_is, page_is}
use Rattle.address_space.proofs.space.Space.next_settled_with_last.Goals as goal

pub returns-in_err-page-clause-page : goal.returns-in_err-page-clause-page
returns-in_err-page-clause-page g c t p space k =
    let from = (c.in_ok-from.ensures).1 in
    rw (c.from_residual-in_err-page.ensures, ← from) (c.in_err-page.ensures.leaf t p space k)

pub settled_by-requires : goal.settled_by-requires
settled_by-requires g c =
    let r = c.requires.ready in
    let found = c.in_ok-page.ensures.leaf r.0 r.1 r.2 r.3 in
    let low = low_page _ _ _ _ r.0 r.1 r.2 c.in_ok-from.from c.args.end c.args.end c.in_ok-page.page c.in_ok-page.leaf found (omega arith) (up_to_trapframe r.2.lays.scheme c.requires.low) in
    names_frame _ _ _ _ r.0 r.1 r.2 c.in_ok-page.page c.in_ok-page.leaf low found.2

pub returns-clause-page : goal.returns-clause-page
returns-clause-page g c t p space k =
    let from = (c.in_ok-from.ensures).1 in
    let up = up_to_trapframe space.lays.scheme c.requires.low in
    let found = rw from at (c.in_ok-page.ensures.leaf t p space k) in
    let low = low_page _ _ _ _ t p space c.args.first c.args.end c.args.end c.in_ok-page.page c.in_ok-page.leaf found (omega arith) up in
    let x = c.settled_by.ensures in
    next_is _ _ _ _ t p space c.args.first c.args.end c.args.end c.in_ok-page.page c.in_ok-page.leaf found (omega arith) up c.settled_by.result x.page
    (page_is _ _ _ _ t p space c.in_ok-page.page c.in_ok-page.leaf low found.2 c.settled_by.result x.page x.frame x.cow x.dirty)
