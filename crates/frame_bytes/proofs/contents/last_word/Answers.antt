use Rattle.std.proofs.Common.{◌≡◌, ◌∙◌}
use Rattle.std.specs.Int.{w64, from_le_bytes}
use Rattle.frame_bytes.proofs.Writes.{part_word}
use Rattle.frame_bytes.proofs.contents.last_word.Goals as goal

pub returns : goal.returns
returns c =
    let word : c.from_le_bytes.result ≡ from_le_bytes w64 c.overwrite.new.bytes = c.from_le_bytes.ensures in
    word ∙ part_word c.args.bytes.now _ c.requires c.overwrite.ensures
