use Rattle.address_space.specs.Agreement.{body_of, IsAlive}
use Rattle.frame_store.specs.Laws.{KeepsSeats}
use Rattle.tests_of_refusals.proofs.observation.see_pages.Given as goal

abbrev pub invariant-pages : goal.invariant-pages
invariant-pages g l = record {
  alive : IsAlive (body_of g.S.FrameSeat.view l.space);
  keeps : KeepsSeats g.F.FrameAccess.invariant l.fn.store l.fn.space.seat l.store l.space.seat;
}
