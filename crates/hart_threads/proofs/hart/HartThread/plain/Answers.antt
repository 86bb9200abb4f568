-- What the search left open of `plain`.
use Rattle.hart_threads.proofs.TokenSteps.{out_alone, over_back, unslotted}
use Rattle.hart_threads.proofs.hart.HartThread.plain.Goals as goal

pub unreachable-requires : goal.unreachable-requires
unreachable-requires g c = unslotted _ _ c.in-Some.field-0 _ c.args.slot c.requires.none c.in-Continues.ensures.turned c.in-Some.is

pub invariant_of-result : goal.invariant_of-result
invariant_of-result g c = record { at = c.requires.at; out = out_alone _ _ _ _ _ c.requires.out _ _ c.args.slot c.in-Continues.ensures.over c.in-Continues.ensures.turned c.in-None.is }

pub returns-in-Over : goal.returns-in-Over
returns-in-Over g c = record { store = c.call.ensures.store; due = over_back _ _ _ _ _ c.requires.out _ _ c.in-Over.ensures.over c.in-Over.ensures.turned }
