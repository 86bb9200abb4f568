use Rattle.std.proofs.Common.{◌∙◌}
use Rattle.script_reader.proofs.FirstBytes.{first_is}
use Rattle.script_reader.proofs.lines.line_len.Goals as goal

pub returns : goal.returns
returns c = c.unwrap_or.ensures ∙ first_is 10 c.args.text.now c.memchr.result c.memchr.ensures
