use Rattle.std.proofs.Common.{◌<◌, arith}
use Rattle.lent_history.proofs.Asked.{later_use}
use Rattle.lent_history.proofs.history.LentHistoryLog.use_at.Goals as goal

pub returns : goal.returns
returns c =
    let some : 0 < c.args.number = omega (arith, c.if-number-eq0.false) in
    later_use _ c.args.self.now c.used-used.result c.args.number c.end_at-moment.result c.from_word-satp.result _ c.self.view_is c.used-used.ensures some
    c.end_at-moment.ensures.place c.from_word-satp.ensures c.use_at-2.ensures
