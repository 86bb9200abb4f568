use Rattle.std.proofs.Common.{◌∙◌, arith}
use Rattle.frame_bytes.proofs.Numbers.{part_of_word}
use Rattle.frame_bytes.proofs.contents.load_bytes.Goals as goal

pub returns-clause-number : goal.returns-clause-number
returns-clause-number g c bytes has =
    c.low_bytes_of.ensures ∙ part_of_word bytes has.small _ _ _ c.requires.width c.requires.aligned (c.load-word.ensures.known _ (has.words _ (omega arith)))
