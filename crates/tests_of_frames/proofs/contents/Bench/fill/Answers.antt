use Rattle.std.proofs.Common.{[]}
use Rattle.tests_of_frames.proofs.OwnedSteps.{one_changed}
use Rattle.tests_of_frames.proofs.contents.Bench.fill.Goals as goal

pub invariant_of-self : goal.invariant_of-self
invariant_of-self c =
    let owns = c.self.invariant in
    one_changed _ _ _ _ owns _ _ (c.fill_frame.ensures.keeps [] owns.invariant) c.fill_frame.ensures.others _ c.fill_frame.ensures.bytes
