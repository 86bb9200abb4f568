use Rattle.frame_store.specs.Holds.{opening_holds}
use Rattle.tests_of_frames.proofs.shared_words.hands_frames_over.Goals as goal

pub another-requires-clause-base : goal.another-requires-clause-base
another-requires-clause-base g c = opening_holds _ c.in_ok-frames.ensures.view
