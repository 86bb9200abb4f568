use Rattle.std.proofs.Common.{◌∷◌}
use Rattle.tests_of_refusals.proofs.Seats.{child_front, ended_alone}
use Rattle.tests_of_refusals.proofs.family.ended.Goals as goal

pub returns-in_default : goal.returns-in_default
returns-in_default g c = record { keeps = ended_alone g.F.FrameAccess.invariant _ _ _ _ _ c.in_default.is c.destroy-seat.ensures.keeps }

pub destroy-last-requires-clause-fits : goal.destroy-last-requires-clause-fits
destroy-last-requires-clause-fits g c =
    let fits = c.requires.fits in
    (c.destroy-seat.result ∷ fits.0, child_front g.F.FrameAccess.invariant _ _ _ _ _ _ c.in-Some.is (g.met.F.FrameAccess.comes_front _) c.destroy-seat.ensures.keeps fits.0 fits.1)

pub join-requires : goal.join-requires
join-requires g c =
    let fits = c.requires.fits in
    record {
      fits = (
        fits.0,
        c.destroy-last.ensures.keeps (c.destroy-seat.result ∷ fits.0)
            (child_front g.F.FrameAccess.invariant _ _ _ _ _ _ c.in-Some.is (g.met.F.FrameAccess.comes_front _) c.destroy-seat.ensures.keeps fits.0 fits.1),
      );
    }

pub returns : goal.returns
returns g c = record {
  keeps = λ others r. c.join.ensures.keeps others
      (c.destroy-last.ensures.keeps (c.destroy-seat.result ∷ others)
      (child_front g.F.FrameAccess.invariant _ _ _ _ _ _ c.in-Some.is (g.met.F.FrameAccess.comes_front _) c.destroy-seat.ensures.keeps others r));
}
