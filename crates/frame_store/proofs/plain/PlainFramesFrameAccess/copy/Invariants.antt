use Rattle.frame_store.specs.View.{with_many, words_known}
use Rattle.frame_store.proofs.plain.PlainFramesFrameAccess.copy.Given as goal

abbrev pub ghost-knowing : goal.ghost-knowing
ghost-knowing a = with_many a.from.now.2.0 0 512 (words_known a.from.now.0.now.view a.from.now.1.0) a.from.now.0.now.view
