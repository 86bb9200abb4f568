use Rattle.std.proofs.Common.{◌≡◌, suc, ◌+◌, ◌∙◌, refl, arith}
use Rattle.frame_store.specs.StoredRuns.{many_none, many_more, many_sole}
use Rattle.frame_store.proofs.access.FrameAccess.fill.Goals as goal

pub words-init : goal.words-init
words-init g c = record {
  fits = c.requires.fits;
  view = many_none _ _ _ _ c.requires.sole;
  keeps = λ others r. r;
  free = λ a. refl;
  counts = λ a f. refl;
}

pub store-requires-clause-fits : goal.store-requires-clause-fits
store-requires-clause-fits g c = c.words.invariant.fits

pub store-requires-clause-sole : goal.store-requires-clause-sole
store-requires-clause-sole g c = many_sole _ _ _ _ _ _ c.words.invariant.view c.requires.sole

pub words-preserved : goal.words-preserved
words-preserved g c =
    let i = c.words.invariant in
    let next : c.words.index + 1 ≡ suc c.words.index = omega arith in
    record {
      fits = (i.fits.0, c.store.ensures.keeps i.fits.0 i.fits.1);
      view = rw next (many_more _ _ _ _ _ _ _ _ _ i.view (omega arith) c.word_at.ensures c.store.ensures.view);
      keeps = λ others r. c.store.ensures.keeps others (i.keeps others r);
      free = λ a. c.store.ensures.free a ∙ i.free a;
      counts = λ a f. c.store.ensures.counts a f ∙ i.counts a f;
    }
