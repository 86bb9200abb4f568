use Rattle.hart_calls.proofs.fork.fork_boxed.Goals as goal

pub fork_with-requires-clause-ready : goal.fork_with-requires-clause-ready
fork_with-requires-clause-ready g c = rw c.deref_mut.ensures.value c.requires.ready

pub fork_unlisted-requires-clause-ready : goal.fork_unlisted-requires-clause-ready
fork_unlisted-requires-clause-ready g c = rw c.deref_mut-in-None.ensures.value c.requires.ready

pub returns-in-Some-clause-forked : goal.returns-in-Some-clause-forked
returns-in-Some-clause-forked g c = rw (← c.deref_mut.ensures.value) c.fork_with.ensures.forked

pub returns-in-Some-clause-whole : goal.returns-in-Some-clause-whole
returns-in-Some-clause-whole g c = rw (← c.deref_mut.ensures.value) c.fork_with.ensures.whole

pub returns-in-Some-clause-dry : goal.returns-in-Some-clause-dry
returns-in-Some-clause-dry g c = rw (← c.deref_mut.ensures.value) c.fork_with.ensures.dry

pub returns-in-Some-clause-full : goal.returns-in-Some-clause-full
returns-in-Some-clause-full g c = rw (← c.deref_mut.ensures.value) c.fork_with.ensures.full

pub returns-in-Some-clause-keeps : goal.returns-in-Some-clause-keeps
returns-in-Some-clause-keeps g c = rw (← c.deref_mut.ensures.value) c.fork_with.ensures.keeps

pub returns-in-Some-clause-keeps_refused : goal.returns-in-Some-clause-keeps_refused
returns-in-Some-clause-keeps_refused g c = rw (← c.deref_mut.ensures.value) c.fork_with.ensures.keeps_refused

pub returns-in-None-clause-forked : goal.returns-in-None-clause-forked
returns-in-None-clause-forked g c = rw (← c.deref_mut-in-None.ensures.value) c.fork_unlisted.ensures.forked

pub returns-in-None-clause-whole : goal.returns-in-None-clause-whole
returns-in-None-clause-whole g c = rw (← c.deref_mut-in-None.ensures.value) c.fork_unlisted.ensures.whole

pub returns-in-None-clause-dry : goal.returns-in-None-clause-dry
returns-in-None-clause-dry g c = rw (← c.deref_mut-in-None.ensures.value) c.fork_unlisted.ensures.dry

pub returns-in-None-clause-full : goal.returns-in-None-clause-full
returns-in-None-clause-full g c = rw (← c.deref_mut-in-None.ensures.value) c.fork_unlisted.ensures.full

pub returns-in-None-clause-keeps : goal.returns-in-None-clause-keeps
returns-in-None-clause-keeps g c = rw (← c.deref_mut-in-None.ensures.value) c.fork_unlisted.ensures.keeps

pub returns-in-None-clause-keeps_refused : goal.returns-in-None-clause-keeps_refused
returns-in-None-clause-keeps_refused g c = rw (← c.deref_mut-in-None.ensures.value) c.fork_unlisted.ensures.keeps_refused
