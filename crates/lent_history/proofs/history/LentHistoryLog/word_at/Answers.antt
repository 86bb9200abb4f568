use Rattle.lent_history.proofs.Asked.{word_result}
use Rattle.lent_history.proofs.history.LentHistoryLog.word_at.Goals as goal

pub returns : goal.returns
returns c =
    word_result _ c.args.self.now c.args.ppn c.args.index c.args.moment c.first_word-first.result c.word_at.result c.self.view_is c.requires.past c.first_word-first.ensures
    c.word_at.ensures
