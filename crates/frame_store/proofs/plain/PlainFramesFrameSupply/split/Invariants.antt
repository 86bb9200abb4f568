use Rattle.std.proofs.Common.{map}
use Rattle.frame_store.specs.View.{split_off, empty_view}
use Rattle.frame_store.proofs.plain.PlainFramesFrameSupply.split.Given as goal

abbrev pub ghost-knowing : goal.ghost-knowing
ghost-knowing a = (split_off (map (λ f. f.0) a.from.now.1.now) a.from.now.0.now.view (empty_view a.from.now.0.now.view.size)).1

abbrev pub ghost-knowing-2 : goal.ghost-knowing-2
ghost-knowing-2 a = (split_off (map (λ f. f.0) a.from.now.1.now) a.from.now.0.now.view (empty_view a.from.now.0.now.view.size)).0
