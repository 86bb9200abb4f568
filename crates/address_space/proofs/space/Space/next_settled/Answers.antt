use Rattle.address_space.proofs.space.Space.next_settled.Goals as goal

pub returns-clause-page : goal.returns-clause-page
returns-clause-page g c t p space = c.next_settled_with_last.ensures.page t p space tt
