use Rattle.std.proofs.Common.{◌+◌, cond}
use Rattle.frame_store.specs.View.{with_credits, saw_none}
use Rattle.frame_store.proofs.plain.PlainFramesFrameSupply.reserve.Given as goal

abbrev pub ghost-knowing : goal.ghost-knowing
ghost-knowing a = cond a.from.now.3 (with_credits a.from.now.1 a.from.now.0.now.view) (saw_none (a.from.now.0.now.view.credits + a.from.now.2) a.from.now.0.now.view)
