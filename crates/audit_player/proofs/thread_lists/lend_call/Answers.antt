use Rattle.audit_player.proofs.LentLists.{one_of, one_there}
use Rattle.audit_player.proofs.thread_lists.lend_call.Goals as goal

pub returns-in-One-clause-there : goal.returns-in-One-clause-there
returns-in-One-clause-there c = one_there c.args.images.now c.args.call.now c.in-One.call c.in-One.is c.requires.declared

pub returns-in-One-clause-is : goal.returns-in-One-clause-is
returns-in-One-clause-is c = one_of c.args.images.now c.args.call.now c.in-One.call c.in-One.is
