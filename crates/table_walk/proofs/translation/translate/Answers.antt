use Rattle.std.proofs.Common.{inr, rules}
use Rattle.table_walk.proofs.translation.translate.Goals as goal

pub returns-then-not-permits-clause-outcome : goal.returns-then-not-permits-clause-outcome
returns-then-not-permits-clause-outcome g c = (search rules, inr (c.in-Leaf.word, c.in-Leaf.level, c.in-Leaf.ensures.found.0, search rules))

pub returns-then-not-has_byte-clause-outcome : goal.returns-then-not-has_byte-clause-outcome
returns-then-not-has_byte-clause-outcome g c =
    let same = g.met.M.Words.same_there _ _ c.lookup.ensures.stays in
    let gone = rw (same, c.physical_address-address.ensures, c.from_word-leaf.ensures) at c.has_byte.ensures in
    (search rules, inr (c.in-Leaf.word, c.in-Leaf.level, c.in-Leaf.ensures.found.0, search rules, search rules))
