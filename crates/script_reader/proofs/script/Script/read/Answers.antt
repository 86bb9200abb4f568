use Rattle.std.proofs.Common.{[]}
use Rattle.script_reader.proofs.script.Script.read.Goals as goal

pub returns-clause-read : goal.returns-clause-read
returns-clause-read c = c.finish.ensures.read c.args.bytes.now (c.in-Ok.ensures.read [] c.new-reading.ensures)
