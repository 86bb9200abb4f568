use Rattle.std.proofs.Common.{◌*◌, ◌/◌, drop, length, take}
use Rattle.std.specs.Int.{from_le_bytes, w64}
use Rattle.frame_store.specs.View.{with_many}
use Rattle.frame_store.proofs.plain.PlainFramesFrameAccess.fill.Given as goal

abbrev pub ghost-knowing : goal.ghost-knowing
ghost-knowing a = with_many a.from.now.1.0 0 (length a.from.now.2.now / 8) (λ i. from_le_bytes w64 (take 8 (drop (8 * i) a.from.now.2.now))) a.from.now.0.now.view
