use Rattle.std.proofs.Common.{ℕ, List, sym, subst, ap, ◌∙◌}
use Rattle.access_history.specs.Held.{with_word}
use Rattle.access_history.specs.declared.outcome.Outcome.{Outcome}
use Rattle.access_judge.specs.Judging.{found_of, update_says_of}
use Rattle.access_judge.specs.Search.{says}
use Rattle.access_judge.proofs.UpdatedBehind.{update_if, update_is}
use Rattle.access_judge.proofs.updated.say_update.Goals as goal

pub returns-then-sets_ad : goal.returns-then-sets_ad
returns-then-sets_ad g c =
    let a = c.args.question.now in let p = g.L.Log.past c.args.log.now in
    let found = found_of c.args.step.now in
    let yes = rw (c.from_word.ensures, c.from_word-2.ensures) at (sym c.sets_ad.ensures ∙ c.if-sets_ad.true) in
    let word = ap (λ (n : ℕ). says a.extensions p a.request a.mode (with_word found.read n)) c.from_word-then-sets_ad.ensures in
    subst (λ (os : List Outcome). g.S.Sink.gains c.args.sink.now os c.say.new.sink)
    (word ∙ update_is a p found c.args.word ∙ update_if _ (update_says_of a p found c.args.word) yes)
    (g.met.S.Sink.gains_on _ _ _ _ _ c.note.ensures c.say.ensures)
