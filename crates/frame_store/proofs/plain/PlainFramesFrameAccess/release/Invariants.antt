use Rattle.frame_store.specs.View.{released}
use Rattle.frame_store.proofs.plain.PlainFramesFrameAccess.release.Given as goal

abbrev pub ghost-knowing : goal.ghost-knowing
ghost-knowing a = released a.from.now.1.0 a.from.now.0.now.view
