use Rattle.hart_calls.proofs.Beside.{body_still, fits_there}
use Rattle.hart_calls.proofs.tracked.Tracked.child_room.Goals as goal

pub invariant_of-self-2 : goal.invariant_of-self-2
invariant_of-self-2 g c =
    let i = c.self.invariant in
    let e = c.split_empty_boxed-bare.ensures in (
      fits_there _ _ c.split_empty_boxed-bare.new.space.value.seat c.requires.store e.fits,
      (i.1.0, body_still c.self.inside.parts.space.value c.split_empty_boxed-bare.new.space.value e.view e.root e.trapframe e.layout i.1.0 c.self.inside.parts.present.state i.1.1),
      i.2,
      i.3,
      i.4,
      i.5,
      i.6,
    )
