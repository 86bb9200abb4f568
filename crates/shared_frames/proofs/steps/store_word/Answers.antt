use Rattle.std.proofs.Common.{ap, sym, subst, ◌∙◌}
use Rattle.std.specs.Prelude.{IsTrue}
use Rattle.frame_store.specs.View.{IsSole, View, with_word}
use Rattle.shared_frames.specs.SeatsOfTable.{view_of}
use Rattle.shared_frames.proofs.Stored.{stored_again, stored_sole}
use Rattle.shared_frames.proofs.steps.store_word.Goals as goal

pub put_word-requires-clause-sole : goal.put_word-requires-clause-sole
put_word-requires-clause-sole c =
    subst (λ (v : View). IsSole v c.args.frame.0) (sym c.learn_word.ensures.view)
    (subst IsTrue (sym (stored_sole c.args.frame.0 c.args.index c.learn_word.result (view_of c.args.seat.now))) c.requires.sole)

pub returns-then-learn_word-value-clause-view : goal.returns-then-learn_word-value-clause-view
returns-then-learn_word-value-clause-view c =
    c.put_word.ensures.view ∙ ap (with_word c.args.frame.0 c.args.index c.args.value) c.learn_word.ensures.view
    ∙ stored_again c.args.frame.0 c.args.index c.args.value c.learn_word.result (view_of c.args.seat.now)
