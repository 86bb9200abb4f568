use Rattle.std.proofs.Common.{◌∙◌, ap, take}
use Rattle.frame_bytes.proofs.Widths.{width_most, within_word}
use Rattle.frame_bytes.proofs.Writes.{length-low_bytes, take_low}
use Rattle.frame_bytes.proofs.contents.store_bytes.Goals as goal

pub store_in_word-requires-clause-in_word : goal.store_in_word-requires-clause-in_word
store_in_word-requires-clause-in_word g c =
    let low = ap (take c.args.width) c.to_le_bytes-value.ensures ∙ take_low c.args.width c.args.value (width_most c.args.width c.requires.width) in
    rw (low, length-low_bytes c.args.value c.args.width) (within_word c.args.offset c.args.width c.requires.width c.requires.aligned)

pub returns-clause-bytes : goal.returns-clause-bytes
returns-clause-bytes g c bytes has =
    let low = ap (take c.args.width) c.to_le_bytes-value.ensures ∙ take_low c.args.width c.args.value (width_most c.args.width c.requires.width) in
    rw low at (c.store_in_word.ensures.bytes bytes has)
