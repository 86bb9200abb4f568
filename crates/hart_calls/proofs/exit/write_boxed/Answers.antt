use Rattle.hart_calls.proofs.exit.write_boxed.Goals as goal

pub write_all_back-requires-clause-fits : goal.write_all_back-requires-clause-fits
write_all_back-requires-clause-fits g c = rw c.deref_mut.ensures.value c.requires.fits

pub write_all_back-requires-clause-ready : goal.write_all_back-requires-clause-ready
write_all_back-requires-clause-ready g c = rw c.deref_mut.ensures.value c.requires.ready

pub returns-clause-still : goal.returns-clause-still
returns-clause-still g c = rw (← c.deref_mut.ensures.value) c.write_all_back.ensures.still

pub returns-clause-written : goal.returns-clause-written
returns-clause-written g c = rw (← c.deref_mut.ensures.value) c.write_all_back.ensures.written

pub returns-clause-files : goal.returns-clause-files
returns-clause-files g c = rw (← c.deref_mut.ensures.value) c.write_all_back.ensures.files

pub returns-clause-refused : goal.returns-clause-refused
returns-clause-refused g c = rw (← c.deref_mut.ensures.value) c.write_all_back.ensures.refused
