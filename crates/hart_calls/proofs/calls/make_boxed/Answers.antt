use Rattle.hart_calls.proofs.calls.make_boxed.Goals as goal

pub make-requires-clause-ready : goal.make-requires-clause-ready
make-requires-clause-ready g c = rw c.deref_mut.ensures.value c.requires.ready

pub returns-clause-call_result : goal.returns-clause-call_result
returns-clause-call_result g c = rw (← c.deref_mut.ensures.value) c.make.ensures.call_result

pub returns-clause-keeps : goal.returns-clause-keeps
returns-clause-keeps g c = rw (← c.deref_mut.ensures.value) c.make.ensures.keeps
