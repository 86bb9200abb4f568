use Rattle.std.proofs.Common.{◌-◌}
use Rattle.frame_store.specs.View.{with_many}
use Rattle.frame_store.proofs.plain.PlainFramesFrameAccess.clear.Given as goal

abbrev pub ghost-knowing : goal.ghost-knowing
ghost-knowing a = with_many a.from.now.1.0 a.from.now.2 (512 - a.from.now.2) (λ _. 0) a.from.now.0.now.view
