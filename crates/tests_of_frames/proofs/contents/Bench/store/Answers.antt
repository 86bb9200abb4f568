use Rattle.std.proofs.Common.{[]}
use Rattle.tests_of_frames.proofs.OwnedSteps.{one_changed}
use Rattle.tests_of_frames.proofs.contents.Bench.store.Goals as goal

pub invariant_of-self : goal.invariant_of-self
invariant_of-self c =
    let owns = c.self.invariant in
    one_changed _ _ _ _ owns _ _ (c.store_bytes.ensures.keeps [] owns.invariant) c.store_bytes.ensures.others _ (c.store_bytes.ensures.bytes _ owns.one.known.1)
