use Rattle.script_reader.proofs.FastLineSteps.{says_load}
use Rattle.script_reader.proofs.fast_lines.load_item.Goals as goal

pub returns : goal.returns
returns c = says_load c.args.fields.now c.in_ok-hart.hart c.in_ok-hart.address c.in_ok-hart.width c.in_ok-hart.via c.load.result c.in_ok-hart.ensures c.load.ensures
