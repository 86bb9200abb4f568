use Rattle.std.proofs.Common.{◌≡◌, ◌∙◌, Some, inl, inr, refl, sym, subst, arith}
use Rattle.std.proofs.lemmas.Bool.{cases_lt}
use Rattle.frame_store.specs.Laws.{fits_after}
use Rattle.frame_store.specs.View.{IsHeld, known_word}
use Rattle.frame_store.proofs.access.FrameAccess.next_word.Goals as goal

pub words-init : goal.words-init
words-init g c = record {
  view = refl;
  same = refl;
  keeps = λ others r. r;
  from = omega arith;
  zeros = λ i w le lt. absurd (omega (arith, le, lt));
}

pub load-word-requires-clause-fits : goal.load-word-requires-clause-fits
load-word-requires-clause-fits g c = fits_after g.Self.FrameAccess.invariant c.words.invariant.keeps c.requires.fits

pub load-word-requires-clause-held : goal.load-word-requires-clause-held
load-word-requires-clause-held g c = subst (λ v. IsHeld v c.args.frame.0) (sym c.words.invariant.view) c.requires.held

pub words-preserved : goal.words-preserved
words-preserved g c =
    let i = c.words.invariant in
    record {
      view = c.load-word.ensures.view ∙ i.view;
      same = c.load-word.ensures.same ∙ i.same;
      keeps = λ others r. c.load-word.ensures.keeps others (i.keeps others r);
      from = omega (arith, i.from);
      zeros = λ j w le lt known. elim (cases_lt j c.words.index) [
        | inl before ↦ i.zeros j w le before known
        | inr here ↦
            let same : j ≡ c.words.index = omega (arith, here, lt) in
            let read = subst (λ v. known_word v c.args.frame.0 c.words.index ≡ Some w) (sym i.view) (subst (λ k. known_word (g.Self.Seat.FrameSeat.view c.args.seat.now) c.args.frame.0 k ≡ Some w) same known) in
            sym (c.load-word.ensures.known w read) ∙ c.if-word-ne0.false
      ];
    }
