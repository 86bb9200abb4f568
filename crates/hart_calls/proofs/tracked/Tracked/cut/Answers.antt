use Rattle.std.proofs.Common.{refl}
use Rattle.hart_calls.proofs.Ends.{cut_full, cut_last, ends_claiming_none}
use Rattle.hart_calls.proofs.tracked.Tracked.cut.Goals as goal

pub returns-clause-over : goal.returns-clause-over
returns-clause-over g c =
    rw (← c.self.view_is) record {
      name = refl;
      seat = c.leave-seat.ensures.fits;
      bare = c.leave-seat.ensures.bare;
      state = c.self.inside.parts.present.state;
      replays = c.self.invariant.2;
      last = cut_last _ _ c.args.outcome c.requires.cause refl (ends_claiming_none _ _ c.leave-seat.ensures.tallies);
      full = cut_full _ _ _ _ c.args.outcome (rw (← c.self.view_is) at c.requires.full);
      few = c.self.invariant.5;
    }
