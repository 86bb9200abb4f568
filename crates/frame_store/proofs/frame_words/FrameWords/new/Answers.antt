use Rattle.std.proofs.Common.{ap, ◌∙◌}
use Rattle.frame_store.specs.ZeroWords.{by_frame}
use Rattle.frame_store.proofs.Turned.{blank_by_frame}
use Rattle.frame_store.proofs.frame_words.FrameWords.new.Goals as goal

pub returns : goal.returns
returns c = record { zeros = ap (by_frame c.args.frames) c.in_ok-list.ensures.items ∙ blank_by_frame c.args.frames }
