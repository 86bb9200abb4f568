use Rattle.tests_of_refusals.proofs.family.first_wrong.Goals as goal

pub played-requires-clause-fits : goal.played-requires-clause-fits
played-requires-clause-fits g c = let fits = c.requires.fits in (fits.0, c.rows.invariant.keeps fits.0 fits.1)

pub rows-preserved : goal.rows-preserved
rows-preserved g c = record {
  alive = c.played.ensures.alive;
  keeps = λ others r. c.played.ensures.keeps others (c.rows.invariant.keeps others r);
}

pub returns-in_err-answer-clause-keeps : goal.returns-in_err-answer-clause-keeps
returns-in_err-answer-clause-keeps g c others r = c.played.ensures.keeps others (c.rows.invariant.keeps others r)

pub returns-then-ne-clause-keeps : goal.returns-then-ne-clause-keeps
returns-then-ne-clause-keeps g c others r = c.played.ensures.keeps others (c.rows.invariant.keeps others r)
