use Rattle.std.proofs.Common.{◌∙◌}
use Rattle.exec_segments.proofs.LittleNumbers.{field_is}
use Rattle.exec_segments.proofs.fields.u16_at.Goals as goal

pub returns : goal.returns
returns c = c.read_u16.ensures ∙ field_is c.args.bytes.now c.args.at 2
