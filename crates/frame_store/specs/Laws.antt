-- Predicates for the contracts of every frame store: what a call requires of its seat, an owner's capability (`IsSeatOf`,
-- `IsAnchored`); what it keeps for all other seats (`KeepsSeats`); how it changes one reference count (`CountBecomes`);
-- what a refused reservation leaves and records (`IsDry`). And two laws for calls in sequence.
use Rattle.std.specs.Prelude.{◌≡◌, ℕ, ◌+◌, ◌<◌, List, ◌∷◌}
use Rattle.frame_store.specs.View.{View, IsHeld}

-- the store's invariant holds of this seat together with some list of other seats
abbrev pub IsSeatOf : {Store Seat : Type 0} → (Store → List Seat → Type 0) → Store → Seat → Type 0
IsSeatOf {Store} {Seat} invariant store seat = (others : List Seat) × invariant store (seat ∷ others)

-- the call keeps the invariant for any other seats, whose views do not change: if it held of the seat and others before, it
-- holds of the seat and these others after
abbrev pub KeepsSeats : {Store Seat : Type 0} → (Store → List Seat → Type 0) → Store → Seat → Store → Seat → Type 0
KeepsSeats {Store} {Seat} invariant store seat after seat_after = (others : List Seat) → invariant store (seat ∷ others) → invariant after (seat_after ∷ others)

-- a refused reservation of n credits changed the seat's view from v to w: references, known words, credits, claims and
-- counts read are as before; a free count of 0 was read, the last time while fewer than n credits were reserved by this call
pub record IsDry (n : ℕ) (v w : View) : Type 0 where
  pub frames : w.frames ≡ v.frames
  pub credits : w.credits ≡ v.credits
  pub claims : w.tallies.claims ≡ v.tallies.claims
  pub looks : w.tallies.looks ≡ v.tallies.looks
  pub zeros : v.tallies.zeros < w.tallies.zeros
  pub short : w.tallies.short < v.credits + n

-- the count of frame f becomes c, and every other count stays
pub record CountBecomes (before after : ℕ → ℕ) (f c : ℕ) : Type 0 where
  pub here : after f ≡ c
  pub apart : (g : ℕ) → (g ≡ f → ⊥) → after g ≡ before g

-- a seat that holds any frame holds frame 0
abbrev pub IsAnchored : View → Type 0
IsAnchored v = (f : ℕ) → IsHeld v f → IsHeld v 0

-- after a call that keeps the seats, its seat meets the requirement of the next call
pub fits_after : {Store Seat : Type 0} (invariant : Store → List Seat → Type 0) {store after : Store} {seat seat_after : Seat}
    → KeepsSeats invariant store seat after seat_after → IsSeatOf invariant store seat → IsSeatOf invariant after seat_after
fits_after invariant keeps fits = (fits.0, keeps fits.0 fits.1)

-- two calls in sequence keep the seats if each does
pub keeps_both : {Store Seat : Type 0} (invariant : Store → List Seat → Type 0) {s t u : Store} {a b c : Seat} → KeepsSeats invariant s a t b
    → KeepsSeats invariant t b u c → KeepsSeats invariant s a u c
keeps_both invariant first second others r = second others (first others r)
