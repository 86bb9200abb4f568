use Rattle.lent_history.proofs.Asked.{word_now}
use Rattle.lent_history.proofs.history.LentHistoryLog.word.Goals as goal

pub returns : goal.returns
returns c =
    word_now _ c.args.self.now c.args.ppn c.args.index c.used.result c.first_word-first.result c.word_at.result c.word_of.result c.self.view_is c.used.ensures
    c.first_word-first.ensures c.word_at.ensures c.word_of.ensures
