use Rattle.std.proofs.Common.{◌≡◌, ◌-◌, ◌*◌, ℕ, drop}
use Rattle.frame_store.specs.Laws.{KeepsSeats}
use Rattle.process_model.specs.ImageProcess.{page_run}
use Rattle.process_model.specs.Process.{Process}
use Rattle.table_walk.specs.Tables.{Tables}
use Rattle.address_space.specs.Parts.{CanFill, FillsPages}
use Rattle.address_space.proofs.build.fill_part.Given as goal

-- the pages before this one are there
abbrev pub invariant-pages : goal.invariant-pages
invariant-pages g l = record {
  rest : l.rest ≡ drop (4096 * (l.number - l.fn.part.region.first)) l.fn.part.bytes.now;
  filled : (trapframe : ℕ) (t : Tables) (p : Process) → p.scheme ≡ l.fn.scheme → CanFill (g.F.Seat.FrameSeat.view l.fn.seat) l.fn.root.0 trapframe t p l.fn.part
      → (u : Tables) × FillsPages (g.F.Seat.FrameSeat.view l.fn.seat) (g.F.Seat.FrameSeat.view l.seat) l.fn.root.0 trapframe u p
      (page_run l.fn.part.region.first l.fn.part.bytes.now (l.number - l.fn.part.region.first));
  keeps : KeepsSeats g.F.FrameAccess.invariant l.fn.store l.fn.seat l.store l.seat;
  free : g.F.FrameAccess.alone → g.F.FrameAccess.free l.store ≡ g.F.FrameAccess.free l.fn.store;
}
