use Rattle.address_space.proofs.DroppedPages.{agrees_dropped}
use Rattle.address_space.proofs.space.Space.drop_pages.Goals as goal
use Rattle.std.proofs.Common.{sym, ◌∙◌}

pub drop_run-requires-clause-ready : goal.drop_run-requires-clause-ready
drop_run-requires-clause-ready g c = let r = c.requires.ready in (c.args.self.now.trapframe.0, r.0, r.1, r.2.lays.scheme ∙ sym c.scheme-scheme.ensures, r.2.stands)

pub returns-clause-dropped : goal.returns-clause-dropped
returns-clause-dropped g c t p a =
    let far = rw c.number.ensures.value at (c.drop_run.ensures.dropped c.args.self.now.trapframe.0 t p (a.lays.scheme ∙ sym c.scheme-scheme.ensures) a.stands) in
    (far.0, agrees_dropped _ _ _ _ c.args.self.now.layout t far.0 p c.args.first c.args.end a far.1, far.1.drops)

pub returns-clause-tallies : goal.returns-clause-tallies
returns-clause-tallies g c =
    let r = c.requires.ready in
    (c.drop_run.ensures.dropped c.args.self.now.trapframe.0 r.0 r.1 (r.2.lays.scheme ∙ sym c.scheme-scheme.ensures) r.2.stands).1.takes
