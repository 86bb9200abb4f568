use Rattle.std.proofs.Common.{cond}
use Rattle.frame_store.specs.View.{shared, read_full}
use Rattle.frame_store.proofs.plain.PlainFramesFrameSupply.share.Given as goal

abbrev pub ghost-knowing : goal.ghost-knowing
ghost-knowing a = cond a.from.now.2 (shared a.from.now.1.0 a.from.now.0.now.view) (read_full a.from.now.0.now.view)
