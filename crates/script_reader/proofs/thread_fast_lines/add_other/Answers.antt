use Rattle.script_reader.proofs.ThreadFastSteps.{item_added}
use Rattle.script_reader.specs.FastWords.{letters}
use Rattle.script_reader.proofs.thread_fast_lines.add_other.Goals as goal

pub returns-clause-added : goal.returns-clause-added
returns-clause-added c = item_added c.args.draft.now c.add_made.new.draft (letters c.args.word) c.args.fields.now c.in_ok-made.made c.add_made.result c.in_ok-made.ensures c.add_made.ensures.added
