use Rattle.std.proofs.Common.{[]}
use Rattle.tests_of_frames.proofs.OwnedSteps.{one_changed, owns_turned}
use Rattle.tests_of_frames.proofs.contents.Bench.copy.Goals as goal

-- the second frame is the one that changes
pub invariant_of-self : goal.invariant_of-self
invariant_of-self c =
    let owns = c.self.invariant in
    let copied = one_changed _ _ _ _ (owns_turned _ _ _ _ owns) _ _ (c.copy_frame.ensures.keeps [] owns.invariant) c.copy_frame.ensures.others _
    (c.copy_frame.ensures.bytes _ owns.one.known.1) in
    owns_turned _ _ _ _ copied
