use Rattle.std.proofs.Common.{◌≡◌, suc, ◌+◌, ◌==◌, ◌∙◌, ap, sym, refl, arith, inl, inr}
use Rattle.std.proofs.lemmas.Bool.{and_parts}
use Rattle.std.proofs.lemmas.Bool.Decides.{eqb_tells}
use Rattle.frame_store.specs.StoredRuns.{many_more, many_none, many_sole}
use Rattle.frame_store.specs.View.{with_many}
use Rattle.shared_frames.proofs.ManyWords.{over_word, runs_join}
use Rattle.shared_frames.specs.SeatsOfTable.{view_of}
use Rattle.shared_frames.proofs.many_words.clear_group.Goals as goal

pub places-init : goal.places-init
places-init c = record {
  fits = c.requires.fits;
  sole = c.requires.sole;
  zeros = λ all v first n at was. let none : n + 0 ≡ n = omega arith in rw none was;
  over = refl;
}

pub places-preserved : goal.places-preserved
places-preserved c =
    let i = c.places.invariant in
    let one = many_more _ (c.args.index + c.places.place) (λ _. c.learn_word-word.result) _ 0 (c.args.index + c.places.place) c.learn_word-word.result _ _ (many_none _ _ _ _ i.sole) (omega arith) refl c.learn_word-word.ensures.view in
    record {
      fits = c.learn_word-word.ensures.fits;
      sole = many_sole _ _ _ _ _ _ one i.sole;
      zeros = λ all v first n at was.
          let both = and_parts (c.learn_word-word.result == 0) c.places.zeros all in
          let is : c.learn_word-word.result ≡ 0 = elim (eqb_tells c.learn_word-word.result 0) [ inl t ↦ t.1 | inr t ↦ absurd (let no = sym t.0 ∙ both.0 in cc) ] in
          let next : n + (c.places.place + 1) ≡ suc (n + c.places.place) = omega arith in
          rw next (many_more _ _ _ _ _ (c.args.index + c.places.place) _ _ _ (i.zeros both.1 v first n at was) (omega (arith, at)) is c.learn_word-word.ensures.view);
      over = ap (with_many c.args.frame.0 c.args.index 8 (λ _. 0)) c.learn_word-word.ensures.view
          ∙ over_word c.args.frame.0 c.args.index 8 (λ _. 0) (c.args.index + c.places.place) c.learn_word-word.result (view_of c.places.seat) (omega arith) (omega (arith, c.places-test.true)) ∙ i.over;
    }

pub returns-then-not-zeros-clause-view : goal.returns-then-not-zeros-clause-view
returns-then-not-zeros-clause-view c = λ v first n at was.
    let i = c.places.invariant in
    let same : c.args.index ≡ c.args.index + 0 = omega arith in
    let eight : view_of c.clear_some.new.seat ≡ with_many c.args.frame.0 c.args.index 8 (λ _. 0) (view_of c.places.seat) = c.clear_some.ensures.view (view_of c.places.seat) c.args.index 0 same (many_none _ _ _ _ i.sole) in
    eight ∙ i.over ∙ ap (with_many c.args.frame.0 c.args.index 8 (λ _. 0)) was
    ∙ ap (λ k. with_many c.args.frame.0 k 8 (λ _. 0) (with_many c.args.frame.0 first n (λ _. 0) v)) at
    ∙ runs_join c.args.frame.0 first n 8 (λ _. 0) v
