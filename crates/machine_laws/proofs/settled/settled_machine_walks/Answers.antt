use Rattle.machine_laws.proofs.SettledWalks.{fence_settles, settled_is_walk, step_settles}
use Rattle.machine_laws.proofs.settled.settled_machine_walks.Goals as goal

pub returns : goal.returns
returns c = record {
  fences = λ old new x reply k page f h full at before made. fence_settles old new x reply k page f h full at before made;
  stays = λ old new w s reply k page x f h is after at has satp same settled. step_settles old new w s reply k page x f h is after at has satp same settled;
  walks = λ m w k x f h is at has have q mode o plain svade plainly settled. settled_is_walk m w k x f h is at has have q mode plain svade plainly settled o;
}
