use Rattle.std.proofs.Common.{◌∙◌, arith}
use Rattle.std.proofs.lemmas.List.{take_all}
use Rattle.frame_bytes.proofs.contents.read_frame.Goals as goal

pub returns-clause-bytes : goal.returns-clause-bytes
returns-clause-bytes g c page has = c.read_words.ensures.bytes page has ∙ take_all _ page (omega (arith, has.length, c.told-bytes))
