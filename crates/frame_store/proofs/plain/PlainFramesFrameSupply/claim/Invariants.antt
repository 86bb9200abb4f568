use Rattle.frame_store.specs.View.{claimed}
use Rattle.frame_store.proofs.plain.PlainFramesFrameSupply.claim.Given as goal

abbrev pub ghost-knowing : goal.ghost-knowing
ghost-knowing a = claimed a.from.now.1.0 a.from.now.0.now.view
