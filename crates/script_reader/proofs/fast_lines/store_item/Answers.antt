use Rattle.script_reader.proofs.FastLineSteps.{says_store}
use Rattle.script_reader.proofs.fast_lines.store_item.Goals as goal

pub returns : goal.returns
returns c = says_store c.args.fields.now c.in_ok-hart.hart c.in_ok-hart.address c.in_ok-hart.width c.in_ok-hart.value c.in_ok-hart.via c.store.result c.in_ok-hart.ensures c.store.ensures
