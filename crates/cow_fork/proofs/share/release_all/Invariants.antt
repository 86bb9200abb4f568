use Rattle.std.proofs.Common.{◌≡◌, drop, map}
use Rattle.frame_store.specs.Laws.{KeepsSeats}
use Rattle.frame_store.specs.View.{View}
use Rattle.cow_fork.specs.ForkReferences.{HasMore}
use Rattle.cow_fork.proofs.share.release_all.Given as goal

-- the references of the frames that are left in the list are still there
abbrev pub invariant-loop-frame : goal.invariant-loop-frame
invariant-loop-frame g l = record {
  root : l.space.root ≡ l.fn.space.root;
  trapframe : l.space.trapframe ≡ l.fn.space.trapframe;
  layout : l.space.layout ≡ l.fn.space.layout;
  credits : (g.S.FrameSeat.view l.space.seat).credits ≡ (g.S.FrameSeat.view l.fn.space.seat).credits;
  tallies : (g.S.FrameSeat.view l.space.seat).tallies ≡ (g.S.FrameSeat.view l.fn.space.seat).tallies;
  size : (g.S.FrameSeat.view l.space.seat).size ≡ (g.S.FrameSeat.view l.fn.space.seat).size;
  keeps : KeepsSeats g.F.FrameAccess.invariant l.fn.store l.fn.space.seat l.store l.space.seat;
  more : (v : View) → HasMore v (g.S.FrameSeat.view l.fn.space.seat) (map (λ f. f.0) l.frames) → HasMore v (g.S.FrameSeat.view l.space.seat) (map (λ f. f.0) (drop l.frame-index l.frames));
}
