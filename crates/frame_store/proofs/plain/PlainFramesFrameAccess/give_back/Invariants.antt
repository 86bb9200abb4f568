use Rattle.frame_store.specs.View.{without_credits}
use Rattle.frame_store.proofs.plain.PlainFramesFrameAccess.give_back.Given as goal

abbrev pub ghost-knowing : goal.ghost-knowing
ghost-knowing a = without_credits a.from.now.1 a.from.now.0.now.view
