use Rattle.std.proofs.Common.{◌++◌}
use Rattle.tests_of_refusals.proofs.Seats.{seats_beside}
use Rattle.tests_of_refusals.proofs.family.played.Goals as goal

pub returns-in_err-before-clause-keeps : goal.returns-in_err-before-clause-keeps
returns-in_err-before-clause-keeps g c others r = c.seen.ensures.keeps (seats_beside c.args.child.now ++ others) r

pub act-answer-requires-clause-fits : goal.act-answer-requires-clause-fits
act-answer-requires-clause-fits g c = let fits = c.requires.fits in (fits.0, c.seen.ensures.keeps (seats_beside c.args.child.now ++ fits.0) fits.1)

pub seen-requires-2-clause-fits : goal.seen-requires-2-clause-fits
seen-requires-2-clause-fits g c =
    let fits = c.requires.fits in
    (seats_beside c.act-answer.new.child ++ fits.0, c.act-answer.ensures.keeps fits.0 (c.seen.ensures.keeps (seats_beside c.args.child.now ++ fits.0) fits.1))

pub returns-in_err-after-clause-keeps : goal.returns-in_err-after-clause-keeps
returns-in_err-after-clause-keeps g c others r =
    c.seen-2.ensures.keeps (seats_beside c.act-answer.new.child ++ others) (c.act-answer.ensures.keeps others (c.seen.ensures.keeps (seats_beside c.args.child.now ++ others) r))

pub returns-clause-keeps : goal.returns-clause-keeps
returns-clause-keeps g c others r =
    c.seen-2.ensures.keeps (seats_beside c.act-answer.new.child ++ others) (c.act-answer.ensures.keeps others (c.seen.ensures.keeps (seats_beside c.args.child.now ++ others) r))
