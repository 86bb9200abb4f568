use Rattle.std.proofs.Common.{◌∙◌, refl, arith}
use Rattle.frame_clients.proofs.PageSteps.{page_none, page_sole, page_more}
use Rattle.frame_clients.proofs.filling.fill.Goals as goal

pub loop-index-init : goal.loop-index-init
loop-index-init g c = record { fits = c.requires.fits; view = page_none _ _ c.requires.claimed; keeps = λ others r. r; free = λ a. refl; counts = λ a f. refl }

pub store-requires-clause-sole : goal.store-requires-clause-sole
store-requires-clause-sole g c = page_sole _ _ _ _ _ c.loop-index.invariant.view

pub loop-index-preserved : goal.loop-index-preserved
loop-index-preserved g c =
    let i = c.loop-index.invariant in
    record {
      fits = (i.fits.0, c.store.ensures.keeps i.fits.0 i.fits.1);
      view = page_more _ _ _ _ _ i.view _ (omega arith) c.store.ensures.view;
      keeps = λ others r. c.store.ensures.keeps others (i.keeps others r);
      free = λ a. c.store.ensures.free a ∙ i.free a;
      counts = λ a f. c.store.ensures.counts a f ∙ i.counts a f;
    }
