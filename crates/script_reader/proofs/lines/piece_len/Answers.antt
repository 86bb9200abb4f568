use Rattle.std.proofs.Common.{◌∙◌}
use Rattle.script_reader.proofs.FirstBytes.{first_is}
use Rattle.script_reader.proofs.lines.piece_len.Goals as goal

pub returns : goal.returns
returns c = c.unwrap_or.ensures ∙ first_is 58 c.args.field.now c.memchr.result c.memchr.ensures
