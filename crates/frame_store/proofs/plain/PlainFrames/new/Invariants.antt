use Rattle.frame_store.specs.View.{opening_view}
use Rattle.frame_store.proofs.Unused.{ListsFrom}
use Rattle.frame_store.proofs.plain.PlainFrames.new.Given as goal

abbrev pub ghost-knowing : goal.ghost-knowing
ghost-knowing a = opening_view a.from.now

abbrev pub invariant-loop-frame : goal.invariant-loop-frame
invariant-loop-frame l = ListsFrom l.unused.items l.frame
