use Rattle.hart_calls.proofs.Beside.{holds_code}
use Rattle.hart_calls.proofs.fork.split_empty_boxed.Goals as goal

pub split_empty_seat-requires-clause-anchored : goal.split_empty_seat-requires-clause-anchored
split_empty_seat-requires-clause-anchored g c = rw c.deref_mut.ensures.value (holds_code c.args.space.now.value c.requires.ready)

pub split_empty_seat-requires-clause-fits : goal.split_empty_seat-requires-clause-fits
split_empty_seat-requires-clause-fits g c = rw c.deref_mut.ensures.value c.requires.fits
