use Rattle.hart_calls.proofs.at_once.permitted_boxed.Goals as goal

pub permitted-requires-clause-ready : goal.permitted-requires-clause-ready
permitted-requires-clause-ready g c = rw c.deref_mut.ensures.value c.requires.ready

pub returns-clause-made : goal.returns-clause-made
returns-clause-made g c = rw (← c.deref_mut.ensures.value) c.permitted.ensures.made

pub returns-clause-none : goal.returns-clause-none
returns-clause-none g c = rw (← c.deref_mut.ensures.value) c.permitted.ensures.none

pub returns-clause-keeps : goal.returns-clause-keeps
returns-clause-keeps g c = rw (← c.deref_mut.ensures.value) c.permitted.ensures.keeps
