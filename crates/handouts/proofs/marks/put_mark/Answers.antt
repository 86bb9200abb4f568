use Rattle.std.proofs.Common.{sym, ◌∙◌}
use Rattle.std.proofs.lemmas.List.Elements.{All-push}
use Rattle.handouts.specs.Marks.{IsMarked}
use Rattle.handouts.proofs.marks.put_mark.Goals as goal

pub returns-in_ok-push-clause-marked : goal.returns-in_ok-push-clause-marked
returns-in_ok-push-clause-marked c = λ h there all.
    rw c.in_ok-push.ensures.items (All-push (IsMarked h c.args.student.now) c.args.blanks.now.items _ all (record {
      asked = c.args.asked.now;
      there = there;
      is_blank = sym c.is_blank.ensures ∙ c.if-is_blank.true;
      right = c.mark_of-mark.ensures.0;
      wrong = c.mark_of-mark.ensures.1;
    }))
