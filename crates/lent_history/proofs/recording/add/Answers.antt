use Rattle.std.proofs.Common.{◌<◌, length}
use Rattle.lent_history.proofs.Adding.{adds, count_below}
use Rattle.lent_history.proofs.recording.add.Goals as goal

pub returns-clause-added : goal.returns-clause-added
returns-clause-added c =
    let less : c.used-used.result < length c.args.events.now =
    count_below c.args.hart.now (length c.args.events.now) c.used-used.result c.used-used.ensures c.if-used-events.false in
    adds c.args.hart.now c.args.events.now c.args.event c.used-used.result c.used-used.ensures less
