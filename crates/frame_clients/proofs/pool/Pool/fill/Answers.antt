use Rattle.std.proofs.Common.{◌≡◌, ap, Some}
use Rattle.std.specs.Prelude.{slice_get, IfOk, IfErr}
use Rattle.frame_store.specs.Laws.{IsDry}
use Rattle.frame_store.specs.View.{references}
use Rattle.frame_clients.specs.Places.{Holdings}
use Rattle.frame_clients.proofs.PoolSteps.{seat_there, pool_fits, pool_step, of_seat, of_step, fill_written, written_alone}
use Rattle.frame_clients.proofs.pool.Pool.fill.Goals as goal
use Rattle.frame_clients.proofs.pool.Pool.fill.Goals.{In-Some}

there : (c : In-Some) → slice_get c.self.inside.seats.items c.args.place ≡ Some (Some c.in-Some.seat)
there c = seat_there _ _ _ (ap (λ (h : Holdings). h.seats) c.self.view_is) _ _ c.requires.seated c.index_mut.ensures.value c.in-Some.is

pub filled_frame-requires-clause-fits : goal.filled_frame-requires-clause-fits
filled_frame-requires-clause-fits c = pool_fits _ _ c.self.invariant _ _ (there (goal.at.filled_frame-requires-clause-fits c).In-Some)

pub filled_frame-requires-clause-anchored : goal.filled_frame-requires-clause-anchored
filled_frame-requires-clause-anchored c = c.self.invariant.anchored _ _ (there (goal.at.filled_frame-requires-clause-anchored c).In-Some)

pub invariant_of-self : goal.invariant_of-self
invariant_of-self c = pool_step _ _ c.self.invariant _ _ (there (goal.at.invariant_of-self c).In-Some) _ _ c.filled_frame.ensures.anchored c.filled_frame.ensures.keeps

pub returns-clause-ok : goal.returns-clause-ok
returns-clause-ok c = fill_written _ _ _ (ap (λ (h : Holdings). h.seats) c.self.view_is) _ (there (goal.at.returns-clause-ok c).In-Some) c.filled_frame.result _ _ c.filled_frame.ensures.ok

pub returns-clause-fresh : goal.returns-clause-fresh
returns-clause-fresh c = of_seat _ _ _ (ap (λ (h : Holdings). h.seats) c.self.view_is) _ (there (goal.at.returns-clause-fresh c).In-Some) (λ v. IfOk c.filled_frame.result (λ f. references v f.0 ≡ 0)) c.filled_frame.ensures.fresh

pub returns-clause-dry : goal.returns-clause-dry
returns-clause-dry c = of_step _ _ _ (ap (λ (h : Holdings). h.seats) c.self.view_is) _ (there (goal.at.returns-clause-dry c).In-Some) (λ v w. IfErr c.filled_frame.result (λ _. IsDry 1 v w)) _ c.filled_frame.ensures.dry

pub returns-clause-others : goal.returns-clause-others
returns-clause-others c = written_alone _ _ _ (ap (λ (h : Holdings). h.seats) c.self.view_is) _ (there (goal.at.returns-clause-others c).In-Some) _
