-- What the search left open of `built`.
use Rattle.std.proofs.Common.{ap, arith, refl, sym, subst, ◌∙◌}
use Rattle.frame_store.specs.View.{Tallies}
use Rattle.address_space.specs.Agreement.{body_of, IsSpace}
use Rattle.process_model.specs.Process.{Process}
use Rattle.shared_frames.specs.SeatsOfTable.{fits_still, view_of}
use Rattle.run_roster.proofs.Lending.{fits_at, ready_still}
use Rattle.run_roster.proofs.seats.built.Goals as goal

pub release_seat-requires-clause-fits : goal.release_seat-requires-clause-fits
release_seat-requires-clause-fits g c =
    let still = fits_still _ _ _ c.args.seat c.in-Err.seat refl c.in-Err.ensures.keeps_refused c.requires.fits in
    fits_at _ _ c.in-Err.seat still.0 still.1

pub release_seat-requires-clause-seat : goal.release_seat-requires-clause-seat
release_seat-requires-clause-seat g c = ready_still _ _ _ c.in-Err.ensures.refused c.requires.seat

pub returns-in-Err-clause-fits : goal.returns-in-Err-clause-fits
returns-in-Err-clause-fits g c =
    let still = fits_still _ _ _ c.args.seat c.in-Err.seat refl c.in-Err.ensures.keeps_refused c.requires.fits in
    fits_at _ _ c.release_seat.result (sym still.0) c.release_seat.ensures.fits

pub returns-in-Err-clause-store : goal.returns-in-Err-clause-store
returns-in-Err-clause-store g c = c.release_seat.ensures.store ∙ (fits_still _ _ _ c.args.seat c.in-Err.seat refl c.in-Err.ensures.keeps_refused c.requires.fits).0

pub returns-in-Ok-clause-store : goal.returns-in-Ok-clause-store
returns-in-Ok-clause-store g c = (fits_still _ _ _ c.args.seat c.in-Ok.space.seat refl c.in-Ok.ensures.keeps c.requires.fits).0

pub returns-in-Ok-clause-built : goal.returns-in-Ok-clause-built
returns-in-Ok-clause-built g c =
    let started = c.in-Ok.ensures.started in
    ((fits_still _ _ _ c.args.seat c.in-Ok.space.seat refl c.in-Ok.ensures.keeps c.requires.fits).1, (started.0, subst (λ (p : Process). IsSpace (body_of view_of c.in-Ok.space) started.0 p) (sym c.begun.ensures) (started.1 0)))

pub returns-in-Err-clause-dry : goal.returns-in-Err-clause-dry
returns-in-Err-clause-dry g c =
    let d = c.in-Err.ensures.refused in
    let z = ap (λ (t : Tallies). t.zeros) c.release_seat.ensures.tallies in
    let s = ap (λ (t : Tallies). t.short) c.release_seat.ensures.tallies in
    let n = c.requires.seat.credits in
    let more = d.zeros in
    let less = d.short in
    let claims = ap (λ (t : Tallies). t.claims) c.release_seat.ensures.tallies in
    let same = d.claims in
    let none = c.requires.fresh in
    record { zeros = omega (arith, more, z); short = omega (arith, less, s, n); claims = omega (arith, claims, same, none) }
