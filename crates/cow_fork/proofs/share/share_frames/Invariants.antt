use Rattle.std.proofs.Common.{◌≡◌, map}
use Rattle.frame_store.specs.Laws.{KeepsSeats}
use Rattle.cow_fork.specs.ForkReferences.{HasMore}
use Rattle.cow_fork.proofs.Shares.{AreLeft}
use Rattle.cow_fork.proofs.Taking.{HaveComeTo}
use Rattle.cow_fork.proofs.share.share_frames.Given as goal

-- a reference was taken of each frame before this page's
abbrev pub invariant-pages : goal.invariant-pages
invariant-pages g l = record {
  root : l.space.root ≡ l.fn.space.root;
  trapframe : l.space.trapframe ≡ l.fn.space.trapframe;
  layout : l.space.layout ≡ l.fn.space.layout;
  credits : (g.S.FrameSeat.view l.space.seat).credits ≡ (g.S.FrameSeat.view l.fn.space.seat).credits;
  tallies : (g.S.FrameSeat.view l.space.seat).tallies ≡ (g.S.FrameSeat.view l.fn.space.seat).tallies;
  size : (g.S.FrameSeat.view l.space.seat).size ≡ (g.S.FrameSeat.view l.fn.space.seat).size;
  keeps : KeepsSeats g.F.FrameAccess.invariant l.fn.store l.fn.space.seat l.store l.space.seat;
  more : HasMore (g.S.FrameSeat.view l.fn.space.seat) (g.S.FrameSeat.view l.space.seat) (map (λ f. f.0) l.frames.items);
  left : AreLeft l.settled l.page-index (map (λ f. f.0) l.frames.items);
  counts : g.F.FrameAccess.alone → HaveComeTo (g.F.FrameAccess.count l.fn.store) (g.F.FrameAccess.count l.store) (map (λ f. f.0) l.frames.items);
  free : g.F.FrameAccess.alone → g.F.FrameAccess.free l.store ≡ g.F.FrameAccess.free l.fn.store;
}
