use Rattle.shared_frames.specs.SeatsOfTable.{may_join, fits_joined}
use Rattle.tests_of_frames.proofs.shared_words.work_both.Goals as goal

pub join-requires : goal.join-requires
join-requires g c = record { fits = may_join _ _ c.join-seat.result.0.0 c.join-seat.result.1.0 c.access.ensures c.join-seat.ensures.first c.join-seat.ensures.second }

pub returns : goal.returns
returns g c = fits_joined _ _ _ c.join-seat.result.0.0 c.join-seat.result.1.0 c.join.new.seat c.access.ensures c.join.ensures.same c.join.ensures.keeps c.join-seat.ensures.first c.join-seat.ensures.second
