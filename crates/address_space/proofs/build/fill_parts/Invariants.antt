use Rattle.std.proofs.Common.{◌≡◌, ℕ, take}
use Rattle.frame_store.specs.Laws.{KeepsSeats}
use Rattle.table_walk.specs.Tables.{Tables}
use Rattle.address_space.specs.Parts.{bare_process, FillsPages, pages_of, StandsAlone}
use Rattle.address_space.proofs.build.fill_parts.Given as goal

-- the pages of the parts before this one are there
abbrev pub invariant-parts : goal.invariant-parts
invariant-parts g l = record {
  filled : (trapframe : ℕ) (t : Tables) → StandsAlone (g.F.Seat.FrameSeat.view l.fn.seat) l.fn.root.0 trapframe t (bare_process l.fn.scheme l.fn.parts)
      → (u : Tables) × FillsPages (g.F.Seat.FrameSeat.view l.fn.seat) (g.F.Seat.FrameSeat.view l.seat) l.fn.root.0 trapframe u (bare_process l.fn.scheme l.fn.parts)
      (pages_of (take l.part-index l.fn.parts));
  keeps : KeepsSeats g.F.FrameAccess.invariant l.fn.store l.fn.seat l.store l.seat;
  free : g.F.FrameAccess.alone → g.F.FrameAccess.free l.store ≡ g.F.FrameAccess.free l.fn.store;
}
