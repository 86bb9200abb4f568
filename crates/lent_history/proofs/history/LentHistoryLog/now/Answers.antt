use Rattle.std.proofs.Common.{sym, ◌∙◌}
use Rattle.lent_history.specs.Laws.{history_length}
use Rattle.lent_history.specs.Lent.{used}
use Rattle.lent_history.proofs.history.LentHistoryLog.now.Goals as goal

pub returns : goal.returns
returns c = c.used.ensures ∙ sym (history_length c.args.self.now.events (used c.args.self.now))
