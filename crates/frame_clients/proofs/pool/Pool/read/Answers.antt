use Rattle.std.proofs.Common.{◌≡◌, ap, Some}
use Rattle.std.specs.Prelude.{slice_get, IsSome}
use Rattle.frame_store.specs.View.{IsHeld, known_word}
use Rattle.frame_clients.specs.Places.{Holdings}
use Rattle.frame_clients.proofs.PoolSteps.{seat_there, pool_fits, at_seat, of_seat}
use Rattle.frame_clients.proofs.pool.Pool.read.Goals as goal
use Rattle.frame_clients.proofs.pool.Pool.read.Goals.{In-Some}

there : (c : In-Some) → slice_get c.self.inside.seats.items c.args.place ≡ Some (Some c.in-Some.seat)
there c = seat_there _ _ _ (ap (λ (h : Holdings). h.seats) c.self.view_is) _ _ c.requires.seated c.index_mut.ensures.value c.in-Some.is

pub read_word-requires-clause-fits : goal.read_word-requires-clause-fits
read_word-requires-clause-fits c = pool_fits _ _ c.self.invariant _ _ (there (goal.at.read_word-requires-clause-fits c).In-Some)

pub read_word-requires-clause-held : goal.read_word-requires-clause-held
read_word-requires-clause-held c = at_seat _ _ _ (ap (λ (h : Holdings). h.seats) c.self.view_is) _ (there (goal.at.read_word-requires-clause-held c).In-Some) (λ v. IsHeld v c.args.frame.0) c.requires.held

pub read_word-requires-clause-known : goal.read_word-requires-clause-known
read_word-requires-clause-known c = at_seat _ _ _ (ap (λ (h : Holdings). h.seats) c.self.view_is) _ (there (goal.at.read_word-requires-clause-known c).In-Some) (λ v. IsSome (known_word v c.args.frame.0 c.args.index)) c.requires.known

pub returns-clause-word : goal.returns-clause-word
returns-clause-word c = of_seat _ _ _ (ap (λ (h : Holdings). h.seats) c.self.view_is) _ (there (goal.at.returns-clause-word c).In-Some) (λ v. known_word v c.args.frame.0 c.args.index ≡ Some c.read_word.result) c.read_word.ensures.word
