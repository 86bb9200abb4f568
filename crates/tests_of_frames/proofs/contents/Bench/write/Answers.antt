use Rattle.std.proofs.Common.{[]}
use Rattle.tests_of_frames.proofs.OwnedSteps.{one_changed}
use Rattle.tests_of_frames.proofs.contents.Bench.write.Goals as goal

pub invariant_of-self : goal.invariant_of-self
invariant_of-self c =
    let owns = c.self.invariant in
    one_changed _ _ _ _ owns _ _ (c.write_run.ensures.keeps [] owns.invariant) c.write_run.ensures.others _ (c.write_run.ensures.bytes _ owns.one.known.1)
