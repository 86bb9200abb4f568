use Rattle.frame_store.specs.Laws.{fits_after}
use Rattle.tests_of_processes.proofs.perform.first_wrong.Goals as goal

pub perform-reply-requires-clause-fits : goal.perform-reply-requires-clause-fits
perform-reply-requires-clause-fits g c = fits_after g.F.FrameAccess.invariant c.rows.invariant.keeps c.requires.fits

pub returns-then-ne-clause-keeps : goal.returns-then-ne-clause-keeps
returns-then-ne-clause-keeps g c others r = c.perform-reply.ensures.keeps others (c.rows.invariant.keeps others r)

pub rows-preserved : goal.rows-preserved
rows-preserved g c = record {
  alive = c.perform-reply.ensures.alive;
  keeps = λ others r. c.perform-reply.ensures.keeps others (c.rows.invariant.keeps others r);
}
