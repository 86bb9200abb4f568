-- What the search left open of `fork`.
use Rattle.hart_threads.proofs.TokenSteps.{elder_out, is_birth, out_alone, over_back, young_out}
use Rattle.hart_threads.proofs.hart.HartThread.fork.Goals as goal

pub add_child-token-requires-clause-birth : goal.add_child-token-requires-clause-birth
add_child-token-requires-clause-birth g c = is_birth _ _ _ _ _ c.requires.out _ _ _ _ c.in-Continues.ensures.turned c.in-Some.is

pub invariant_of-job : goal.invariant_of-job
invariant_of-job g c = record { at = c.add_child-token.ensures.at.1; out = young_out _ _ _ _ _ c.requires.out _ _ _ _ c.in-Continues.ensures.turned c.in-Some.is _ c.add_child-token.ensures.child }

pub invariant_of-result : goal.invariant_of-result
invariant_of-result g c = record { at = c.add_child-token.ensures.at.0; out = elder_out _ _ _ _ _ c.requires.out _ _ _ _ c.in-Continues.ensures.turned c.in-Some.is c.in-Continues.ensures.over _ c.add_child-token.ensures.parent }

pub invariant_of-result-in-None : goal.invariant_of-result-in-None
invariant_of-result-in-None g c = record { at = c.requires.at.0; out = out_alone _ _ _ _ _ c.requires.out _ _ _ c.in-Continues.ensures.over c.in-Continues.ensures.turned c.in-None.is }

pub returns-in-Over : goal.returns-in-Over
returns-in-Over g c = record { store = c.call.ensures.store; due = over_back _ _ _ _ _ c.requires.out _ _ c.in-Over.ensures.over c.in-Over.ensures.turned }
