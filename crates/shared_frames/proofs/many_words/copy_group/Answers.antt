use Rattle.std.proofs.Common.{◌≡◌, suc, ◌+◌, ◌==◌, ◌∙◌, ap, sym, refl, arith, inl, inr}
use Rattle.std.proofs.lemmas.Bool.{and_parts}
use Rattle.std.proofs.lemmas.Bool.Decides.{eqb_tells}
use Rattle.frame_store.specs.View.{IsHeld, IsSole, known_word, with_many, words_known}
use Rattle.frame_store.specs.StoredRuns.{many_held, many_more, many_none, many_sole, many_word_apart}
use Rattle.shared_frames.proofs.ManyWords.{over_word, runs_join}
use Rattle.shared_frames.specs.SeatsOfTable.{view_of}
use Rattle.shared_frames.proofs.many_words.copy_group.Goals as goal

pub places-init : goal.places-init
places-init c = record {
  fits = c.requires.fits;
  held = c.requires.held;
  sole = c.requires.sole;
  apart = λ i. refl;
  same = λ all v known was. let none : c.args.index + 0 ≡ c.args.index = omega arith in rw none was;
  over = λ word. refl;
}

pub learn_word-there-requires-clause-sole : goal.learn_word-there-requires-clause-sole
learn_word-there-requires-clause-sole c = rw c.load_word-word.ensures.view c.places.invariant.sole

pub places-preserved : goal.places-preserved
places-preserved c =
    let i = c.places.invariant in
    let sole : IsSole (view_of c.load_word-word.new.seat) c.args.to.0 = rw c.load_word-word.ensures.view i.sole in
    let held : IsHeld (view_of c.load_word-word.new.seat) c.args.from.0 = rw c.load_word-word.ensures.view i.held in
    let one = many_more _ (c.args.index + c.places.place) (λ _. c.learn_word-there.result) _ 0 (c.args.index + c.places.place) c.learn_word-there.result _ _ (many_none _ _ _ _ sole) (omega arith) refl c.learn_word-there.ensures.view in
    record {
      fits = c.learn_word-there.ensures.fits;
      held = many_held _ _ _ _ _ _ one _ c.requires.apart held;
      sole = many_sole _ _ _ _ _ _ one sole;
      apart = λ q. many_word_apart _ _ _ _ _ _ one _ c.requires.apart q ∙ ap (λ z. known_word z c.args.from.0 q) c.load_word-word.ensures.view ∙ i.apart q;
      same = λ all v known was.
          let both = and_parts (c.load_word-word.result == c.learn_word-there.result) c.places.same all in
          let is : c.load_word-word.result ≡ c.learn_word-there.result = elim (eqb_tells c.load_word-word.result c.learn_word-there.result) [ inl t ↦ t.1 | inr t ↦ absurd (let no = sym t.0 ∙ both.0 in cc) ] in
          let next : c.args.index + (c.places.place + 1) ≡ suc (c.args.index + c.places.place) = omega arith in
          let here = i.same both.1 v known was in
          let word = c.load_word-word.ensures.known _ (many_word_apart _ _ _ _ _ _ here _ c.requires.apart _ ∙ known (c.args.index + c.places.place) (omega (arith, c.requires.in_page, c.places-test.true))) in
          rw next (many_more _ _ _ _ _ (c.args.index + c.places.place) _ _ _ (c.load_word-word.ensures.view ∙ here) (omega arith) (sym is ∙ word) c.learn_word-there.ensures.view);
      over = λ word. ap (with_many c.args.to.0 c.args.index 4 word) c.learn_word-there.ensures.view
          ∙ over_word c.args.to.0 c.args.index 4 word (c.args.index + c.places.place) c.learn_word-there.result (view_of c.load_word-word.new.seat) (omega arith) (omega (arith, c.places-test.true))
          ∙ ap (with_many c.args.to.0 c.args.index 4 word) c.load_word-word.ensures.view ∙ i.over word;
    }

pub returns-then-not-same-clause-view : goal.returns-then-not-same-clause-view
returns-then-not-same-clause-view c = λ v known was.
    let i = c.places.invariant in
    let from_start : 0 + c.args.index ≡ c.args.index = omega arith in
    let four = c.copy_some.ensures.view v (view_of c.places.seat) known (λ q. i.apart q ∙ many_word_apart _ _ _ _ _ _ was _ c.requires.apart q) refl in
    let copied = with_many c.args.to.0 0 c.args.index (words_known v c.args.from.0) v in
    four ∙ i.over (words_known v c.args.from.0) ∙ ap (with_many c.args.to.0 c.args.index 4 (words_known v c.args.from.0)) was
    ∙ ap (λ k. with_many c.args.to.0 k 4 (words_known v c.args.from.0) copied) (sym from_start)
    ∙ runs_join c.args.to.0 0 c.args.index 4 (words_known v c.args.from.0) v
