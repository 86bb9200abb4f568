use Rattle.std.proofs.Common.{refl, ap, sym, subst}
use Rattle.std.specs.Prelude.{IsSome}
use Rattle.std.proofs.lemmas.Option.{same_Some}
use Rattle.frame_clients.specs.Places.{Holdings}
use Rattle.tests_of_frames.proofs.ClientSteps.{held_there, known_there, read_there, held_on, known_on}
use Rattle.tests_of_frames.proofs.clients.reads_back_through_two_places.Goals as goal

pub read-last-requires-clause-held : goal.read-last-requires-clause-held
read-last-requires-clause-held g c = held_there _ _ _ _ _ c.in_ok-pool.ensures.seats c.in_ok-open.ensures.ok c.in_ok-frame.ensures.ok

pub read-last-requires-clause-known : goal.read-last-requires-clause-known
read-last-requires-clause-known g c = subst IsSome (sym (known_there _ _ _ _ _ c.in_ok-pool.ensures.seats c.in_ok-open.ensures.ok c.in_ok-frame.ensures.ok 511)) refl

pub prove-unreachable-requires : goal.prove-unreachable-requires
prove-unreachable-requires g c = c.if-prove.true (sym (same_Some _ _ (read_there _ _ _ _ _ c.in_ok-pool.ensures.seats c.in_ok-open.ensures.ok c.in_ok-frame.ensures.ok 511 _ c.read-last.ensures.word)))

pub read-requires-clause-held : goal.read-requires-clause-held
read-requires-clause-held g c = held_on _ _ _ _ _ c.in_ok-pool.ensures.seats c.in_ok-open.ensures.ok c.in_ok-frame.ensures.ok _ _ _ (ap (λ (h : Holdings). h.seats) c.read-last.ensures.same) c.close.ensures.seats refl

pub read-requires-clause-known : goal.read-requires-clause-known
read-requires-clause-known g c = known_on _ _ _ _ _ c.in_ok-pool.ensures.seats c.in_ok-open.ensures.ok c.in_ok-frame.ensures.ok _ _ _ (ap (λ (h : Holdings). h.seats) c.read-last.ensures.same) c.close.ensures.seats refl 0 refl

pub read-requires-2-clause-held : goal.read-requires-2-clause-held
read-requires-2-clause-held g c = held_on _ _ _ _ _ c.in_ok-pool.ensures.seats c.in_ok-open.ensures.ok c.in_ok-frame.ensures.ok _ _ _ (ap (λ (h : Holdings). h.seats) c.read-last.ensures.same) c.close.ensures.seats (ap (λ (h : Holdings). h.seats) c.read.ensures.same)

pub read-requires-2-clause-known : goal.read-requires-2-clause-known
read-requires-2-clause-known g c = known_on _ _ _ _ _ c.in_ok-pool.ensures.seats c.in_ok-open.ensures.ok c.in_ok-frame.ensures.ok _ _ _ (ap (λ (h : Holdings). h.seats) c.read-last.ensures.same) c.close.ensures.seats (ap (λ (h : Holdings). h.seats) c.read.ensures.same) 511 refl
