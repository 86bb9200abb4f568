use Rattle.frame_store.specs.Holds.{opening_holds}
use Rattle.tests_of_scripts.proofs.lost_frames.run_and_reserve.Goals as goal

pub run_harts-requires-clause-anchored : goal.run_harts-requires-clause-anchored
run_harts-requires-clause-anchored g c = λ _ _. opening_holds _ c.in_ok-frames.ensures.view
