use Rattle.std.proofs.Common.{◌≡◌, ap, Some, sym, subst, arith}
use Rattle.std.specs.Prelude.{slice_get}
use Rattle.std.proofs.lemmas.Result.{err_from_is_err_and}
use Rattle.frame_store.specs.View.{IsHeld, read_full}
use Rattle.frame_store.specs.SeatOpening.{opened_held}
use Rattle.frame_clients.specs.Places.{Holdings}
use Rattle.frame_clients.proofs.PoolSteps.{within, empty_there, seat_there, pool_fits, pool_step, pool_split, written, open_written}
use Rattle.frame_clients.proofs.pool.Pool.open.Goals as goal
use Rattle.frame_clients.proofs.pool.Pool.open.Goals.{In-Some}

there : (c : In-Some) → slice_get c.self.inside.seats.items c.args.from ≡ Some (Some c.in-Some.seat)
there c = seat_there _ _ _ (ap (λ (h : Holdings). h.seats) c.self.view_is) _ _ c.requires.seated c.index_mut.ensures.value c.in-Some.is

pub opened_seat-requires-clause-fits : goal.opened_seat-requires-clause-fits
opened_seat-requires-clause-fits c = pool_fits _ _ c.self.invariant _ _ (there (goal.at.opened_seat-requires-clause-fits c).In-Some)

pub opened_seat-requires-clause-anchored : goal.opened_seat-requires-clause-anchored
opened_seat-requires-clause-anchored c = c.self.invariant.anchored _ _ (there (goal.at.opened_seat-requires-clause-anchored c).In-Some)

pub invariant_of-self : goal.invariant_of-self
invariant_of-self c = pool_step _ _ c.self.invariant _ _ (there (goal.at.invariant_of-self c).In-Some) _ _ c.opened_seat.ensures.anchored c.in_err-opened.ensures.keeps_full

pub returns-in_err-opened-clause-full : goal.returns-in_err-opened-clause-full
returns-in_err-opened-clause-full c =
    let p = err_from_is_err_and c.from_residual.result c.from_residual.ensures.1 in
    rw p.1 (written _ _ _ (ap (λ (h : Holdings). h.seats) c.self.view_is) _ (there (goal.at.returns-in_err-opened-clause-full c).In-Some) read_full _ c.in_err-opened.ensures.full)

pub index_mut-requires-2 : goal.index_mut-requires-2
index_mut-requires-2 c = omega (arith, within _ _ _ (ap (λ (h : Holdings). h.seats) c.self.view_is) _ c.requires.empty, c.self.inside.seats.ok.0)

pub invariant_of-self-2 : goal.invariant_of-self-2
invariant_of-self-2 c =
    pool_split _ _ c.self.invariant _ _ (there (goal.at.invariant_of-self-2 c).In-Some) _ _ _ _ (empty_there _ _ _ (ap (λ (h : Holdings). h.seats) c.self.view_is) c.requires.empty) c.opened_seat.ensures.anchored
    (subst (λ v. IsHeld v 0) (sym c.in_ok-opened.ensures.opened) (opened_held c.in-Some.seat)) c.in_ok-opened.ensures.keeps

pub returns-clause-ok : goal.returns-clause-ok
returns-clause-ok c = open_written _ _ _ (ap (λ (h : Holdings). h.seats) c.self.view_is) _ (there (goal.at.returns-clause-ok c).In-Some) _ _ _ c.in_ok-opened.ensures.opener c.in_ok-opened.ensures.opened
