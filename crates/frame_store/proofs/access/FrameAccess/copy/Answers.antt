use Rattle.std.proofs.Common.{◌≡◌, suc, ◌+◌, ◌∙◌, ap, refl, arith}
use Rattle.frame_store.specs.StoredRuns.{many_none, many_more, many_sole, many_held, many_word_apart}
use Rattle.frame_store.proofs.access.FrameAccess.copy.Goals as goal

pub words-init : goal.words-init
words-init g c = record {
  fits = c.requires.fits;
  view = many_none _ _ _ _ c.requires.sole;
  keeps = λ others r. r;
  free = λ a. refl;
  counts = λ a f. refl;
}

pub load-word-requires-clause-fits : goal.load-word-requires-clause-fits
load-word-requires-clause-fits g c = c.words.invariant.fits

pub load-word-requires-clause-held : goal.load-word-requires-clause-held
load-word-requires-clause-held g c = many_held _ _ _ _ _ _ c.words.invariant.view _ c.requires.apart c.requires.held

pub store-requires-clause-fits : goal.store-requires-clause-fits
store-requires-clause-fits g c = let i = c.words.invariant in (i.fits.0, c.load-word.ensures.keeps i.fits.0 i.fits.1)

pub store-requires-clause-sole : goal.store-requires-clause-sole
store-requires-clause-sole g c = many_sole _ _ _ _ _ _ (c.load-word.ensures.view ∙ c.words.invariant.view) c.requires.sole

pub words-preserved : goal.words-preserved
words-preserved g c =
    let i = c.words.invariant in
    let next : c.words.index + 1 ≡ suc c.words.index = omega arith in
    let word = c.load-word.ensures.known _ (many_word_apart _ _ _ _ _ _ i.view _ c.requires.apart _ ∙ c.requires.known c.words.index c.words-test.true) in
    record {
      fits = (i.fits.0, c.store.ensures.keeps i.fits.0 (c.load-word.ensures.keeps i.fits.0 i.fits.1));
      view = rw next (many_more _ _ _ _ _ _ _ _ _ (c.load-word.ensures.view ∙ i.view) (omega arith) word c.store.ensures.view);
      keeps = λ others r. c.store.ensures.keeps others (c.load-word.ensures.keeps others (i.keeps others r));
      free = λ a. c.store.ensures.free a ∙ ap (g.Self.FrameAccess.free) c.load-word.ensures.same ∙ i.free a;
      counts = λ a f. c.store.ensures.counts a f ∙ ap (λ s. g.Self.FrameAccess.count s f) c.load-word.ensures.same ∙ i.counts a f;
    }
