use Rattle.frame_store.specs.Laws.{KeepsSeats}
use Rattle.address_space.specs.Agreement.{body_of, IsAlive}
use Rattle.tests_of_processes.proofs.perform.first_wrong.Given as goal

abbrev pub invariant-rows : goal.invariant-rows
invariant-rows g l = record {
  alive : IsAlive (body_of g.S.FrameSeat.view l.space);
  keeps : KeepsSeats g.F.FrameAccess.invariant l.fn.store l.fn.space.seat l.store l.space.seat;
}
