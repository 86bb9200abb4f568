use Rattle.tests_of_refusals.specs.Family.{AreAlive, FamilyKeeps}
use Rattle.tests_of_refusals.proofs.family.first_wrong.Given as goal

abbrev pub invariant-rows : goal.invariant-rows
invariant-rows g l = record {
  alive : AreAlive g.S.FrameSeat.view l.space l.child;
  keeps : FamilyKeeps g.F.FrameAccess.invariant l.fn.store l.fn.space l.fn.child l.store l.space l.child;
}
