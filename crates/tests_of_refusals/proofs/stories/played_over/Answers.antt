use Rattle.std.proofs.Common.{◌∷◌}
use Rattle.tests_of_refusals.proofs.Seats.{keeper_fits, keeper_keeps}
use Rattle.tests_of_refusals.specs.Family.{seats_of}
use Rattle.tests_of_refusals.proofs.stories.played_over.Goals as goal

pub first_wrong-requires-clause-fits : goal.first_wrong-requires-clause-fits
first_wrong-requires-clause-fits g c = let fits = c.requires.fits in (c.begun.new.keeper ∷ fits.0, c.in_ok-space.ensures.keeps fits.0 fits.1)

pub first_wrong-requires-clause-alive : goal.first_wrong-requires-clause-alive
first_wrong-requires-clause-alive g c = (c.in_ok-space.ensures.alive, tt)

pub reserved_all-free-requires : goal.reserved_all-free-requires
reserved_all-free-requires g c =
    let fits = c.requires.fits in
    record {
      fits =
          keeper_fits g.F.FrameAccess.invariant _ (seats_of c.first_wrong.new.space c.first_wrong.new.child) _ fits.0 (g.met.F.FrameAccess.comes_front _)
          (c.first_wrong.ensures.keeps (c.begun.new.keeper ∷ fits.0) (c.in_ok-space.ensures.keeps fits.0 fits.1));
    }

pub ended-seat-requires-clause-fits : goal.ended-seat-requires-clause-fits
ended-seat-requires-clause-fits g c =
    let fits = c.requires.fits in (
      c.reserved_all-free.new.keeper ∷ fits.0,
      keeper_keeps g.F.FrameAccess.invariant _ _ (seats_of c.first_wrong.new.space c.first_wrong.new.child) _ _ (g.met.F.FrameAccess.comes_front _) (g.met.F.FrameAccess.goes_back _)
          c.reserved_all-free.ensures.keeps fits.0
          (c.first_wrong.ensures.keeps (c.begun.new.keeper ∷ fits.0) (c.in_ok-space.ensures.keeps fits.0 fits.1)),
    )

pub join-requires : goal.join-requires
join-requires g c =
    let fits = c.requires.fits in
    record {
      fits = (
        fits.0,
        c.ended-seat.ensures.keeps (c.reserved_all-free.new.keeper ∷ fits.0)
            (keeper_keeps g.F.FrameAccess.invariant _ _ (seats_of c.first_wrong.new.space c.first_wrong.new.child) _ _ (g.met.F.FrameAccess.comes_front _) (g.met.F.FrameAccess.goes_back _)
            c.reserved_all-free.ensures.keeps fits.0
            (c.first_wrong.ensures.keeps (c.begun.new.keeper ∷ fits.0) (c.in_ok-space.ensures.keeps fits.0 fits.1))),
      );
    }

pub returns : goal.returns
returns g c = record {
  keeps = λ others r. c.join.ensures.keeps others
      (c.ended-seat.ensures.keeps (c.reserved_all-free.new.keeper ∷ others)
      (keeper_keeps g.F.FrameAccess.invariant _ _ (seats_of c.first_wrong.new.space c.first_wrong.new.child) _ _ (g.met.F.FrameAccess.comes_front _) (g.met.F.FrameAccess.goes_back _)
      c.reserved_all-free.ensures.keeps others
      (c.first_wrong.ensures.keeps (c.begun.new.keeper ∷ others) (c.in_ok-space.ensures.keeps others r))));
}
