use Rattle.std.proofs.Common.{◌≡◌, suc, ◌+◌, refl, arith}
use Rattle.frame_store.specs.StoredRuns.{many_more, many_none, many_sole}
use Rattle.shared_frames.proofs.many_words.clear_some.Goals as goal

pub places-init : goal.places-init
places-init c = record {
  fits = c.requires.fits;
  sole = c.requires.sole;
  view = λ v first n at was. let none : n + 0 ≡ n = omega arith in rw none was;
}

pub places-preserved : goal.places-preserved
places-preserved c =
    let i = c.places.invariant in
    record {
      fits = c.store_word.ensures.fits;
      sole = many_sole _ _ _ _ _ _ (many_more _ (c.args.index + c.places.place) (λ _. 0) _ 0 (c.args.index + c.places.place) 0 _ _ (many_none _ _ _ _ i.sole) (omega arith) refl c.store_word.ensures.view) i.sole;
      view = λ v first n at was.
          let next : n + (c.places.place + 1) ≡ suc (n + c.places.place) = omega arith in
          rw next (many_more _ _ _ _ _ (c.args.index + c.places.place) 0 _ _ (i.view v first n at was) (omega (arith, at)) refl c.store_word.ensures.view);
    }
