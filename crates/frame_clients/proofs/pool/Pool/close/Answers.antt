use Rattle.std.proofs.Common.{◌≡◌, ap, Some, sym, subst, ◌∙◌}
use Rattle.std.specs.Prelude.{slice_get}
use Rattle.frame_store.specs.View.{IsHeld}
use Rattle.frame_clients.specs.Places.{Holdings}
use Rattle.frame_clients.proofs.PoolSteps.{seat_there, seat_still_there, join_fits, pool_join, close_written}
use Rattle.frame_store.specs.SeatJoin.{joined_first}
use Rattle.frame_clients.proofs.pool.Pool.close.Goals as goal
use Rattle.frame_clients.proofs.pool.Pool.close.Goals.{In-Some, In-Some-index_mut}

leaving : (c : In-Some) → slice_get c.self.inside.seats.items c.args.place ≡ Some (Some c.in-Some.other)
leaving c = seat_there _ _ _ (ap (λ (h : Holdings). h.seats) c.self.view_is) _ _ c.requires.seated c.index_mut.ensures.value (sym c.take.ensures.value ∙ c.in-Some.is)

taking : (c : In-Some-index_mut) → slice_get c.self.inside.seats.items c.args.into ≡ Some (Some c.in-Some-index_mut.seat)
taking c = seat_still_there _ _ _ (ap (λ (h : Holdings). h.seats) c.self.view_is) _ _ _ _ c.requires.apart c.requires.into_seated c.index_mut-2.ensures.value c.in-Some-index_mut.is

pub join-requires : goal.join-requires
join-requires c =
    let at = goal.at.join-requires c in
    record { fits = join_fits _ _ c.self.invariant _ _ (leaving at.In-Some) _ _ (taking at.In-Some-index_mut) c.requires.apart }

pub invariant_of-self : goal.invariant_of-self
invariant_of-self c =
    let at = goal.at.invariant_of-self c in
    let anchored = c.self.invariant.anchored _ _ (taking at.In-Some-index_mut) in
    let held : IsHeld c.join.new.seat 0 = subst (λ v. IsHeld v 0) (sym c.join.ensures.view) (joined_first _ _ _ anchored) in
    rw c.take.ensures.after (pool_join _ _ c.self.invariant _ _ (leaving at.In-Some) _ _ (taking at.In-Some-index_mut) c.requires.apart _ _ held c.join.ensures.keeps)

pub returns-clause-seats : goal.returns-clause-seats
returns-clause-seats c =
    let at = goal.at.returns-clause-seats c in
    close_written _ _ _ _ (ap (λ (h : Holdings). h.seats) c.self.view_is) _ _ _ _ (leaving at.In-Some) (taking at.In-Some-index_mut) c.take.ensures.after c.join.ensures.view
