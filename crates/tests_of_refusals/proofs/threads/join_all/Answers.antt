use Rattle.std.proofs.Common.{Bool, Some, arith, subst, sym}
use Rattle.std.proofs.lemmas.List.Elements.{All-pop}
use Rattle.shared_frames.specs.SeatsOfTable.{FitsIn, fits_joined, may_join}
use Rattle.shared_frames.specs.declared.seat.SharedSeat.{SharedSeat}
use Rattle.tests_of_refusals.specs.Ready.{IsReady}
use Rattle.tests_of_refusals.specs.declared.threads.Job.{Job}
use Rattle.tests_of_refusals.proofs.threads.join_all.Goals as goal

pub map_vec-requires-after_bounds : goal.map_vec-requires-after_bounds
map_vec-requires-after_bounds g c κs within i x low is = subst (λ (j : Job). IsReady c.args.frames.now.table j.space) (sym is) (c.requires.ready i x low)

pub seats-init : goal.seats-init
seats-init g c = record {
  fits = c.requires.fits;
  others = λ k d low. (c.in_ok-seats.ensures.each k d (let same = c.in_ok-seats.ensures.len in omega (arith, low, same, c.in_ok-seats.seats.ok, c.args.jobs.ok))).1.call.met;
}

pub join-requires : goal.join-requires
join-requires g c =
    let popped = All-pop (λ (r : SharedSeat × Bool). FitsIn c.args.frames.now.table r.0) _ _ (Some (c.in-Some.other, c.in-Some.kept)) c.in-Some.ensures.items c.seats.invariant.others in
    record { fits = may_join _ _ c.seats.seat c.in-Some.other c.access.ensures c.seats.invariant.fits popped.1 }

pub seats-preserved : goal.seats-preserved
seats-preserved g c =
    let popped = All-pop (λ (r : SharedSeat × Bool). FitsIn c.args.frames.now.table r.0) _ _ (Some (c.in-Some.other, c.in-Some.kept)) c.in-Some.ensures.items c.seats.invariant.others in
    record {
      fits = fits_joined _ _ _ c.seats.seat c.in-Some.other c.join.new.seat c.access.ensures c.join.ensures.same c.join.ensures.keeps c.seats.invariant.fits popped.1;
      others = popped.0;
    }
