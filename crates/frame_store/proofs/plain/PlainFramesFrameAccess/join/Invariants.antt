use Rattle.frame_store.specs.View.{joined}
use Rattle.frame_store.proofs.plain.PlainFramesFrameAccess.join.Given as goal

abbrev pub ghost-knowing : goal.ghost-knowing
ghost-knowing a = joined a.from.now.0.now.view a.from.now.1.now.view
