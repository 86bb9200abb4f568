use Rattle.std.proofs.Common.{◌≡◌, suc, ◌+◌, ◌∙◌, refl, arith, subst}
use Rattle.frame_store.specs.View.{IsHeld, IsSole}
use Rattle.frame_store.specs.StoredRuns.{many_held, many_more, many_none, many_sole, many_word_apart}
use Rattle.shared_frames.specs.SeatsOfTable.{view_of}
use Rattle.shared_frames.proofs.many_words.copy_some.Goals as goal

pub places-init : goal.places-init
places-init c = record {
  fits = c.requires.fits;
  held = c.requires.held;
  sole = c.requires.sole;
  view = λ v u known same was. was ∙ many_none _ _ _ _ (subst (λ w. IsSole w c.args.to.0) was c.requires.sole);
}

pub store_word-requires-clause-sole : goal.store_word-requires-clause-sole
store_word-requires-clause-sole c = rw c.load_word-word.ensures.view c.places.invariant.sole

pub places-preserved : goal.places-preserved
places-preserved c =
    let i = c.places.invariant in
    let sole : IsSole (view_of c.load_word-word.new.seat) c.args.to.0 = rw c.load_word-word.ensures.view i.sole in
    let held : IsHeld (view_of c.load_word-word.new.seat) c.args.from.0 = rw c.load_word-word.ensures.view i.held in
    let one = many_more _ (c.args.index + c.places.place) (λ _. c.load_word-word.result) _ 0 (c.args.index + c.places.place) c.load_word-word.result _ _ (many_none _ _ _ _ sole) (omega arith) refl c.store_word.ensures.view in
    record {
      fits = c.store_word.ensures.fits;
      held = many_held _ _ _ _ _ _ one _ c.requires.apart held;
      sole = many_sole _ _ _ _ _ _ one sole;
      view = λ v u known same was.
          let next : c.places.place + 1 ≡ suc c.places.place = omega arith in
          let here = i.view v u known same was in
          let word = c.load_word-word.ensures.known _ (many_word_apart _ _ _ _ _ _ here _ c.requires.apart _ ∙ same (c.args.index + c.places.place) ∙ known (c.args.index + c.places.place) (omega (arith, c.requires.in_page, c.places-test.true))) in
          rw next (many_more _ _ _ _ _ (c.args.index + c.places.place) _ _ _ (c.load_word-word.ensures.view ∙ here) refl word c.store_word.ensures.view);
    }
