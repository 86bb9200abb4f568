-- Lemmas for a fork of the process in a slot: if no reference count is full, its only error is `NoFrame`; and a frame to
-- which the child's seat has a reference is numbered below 2^16.
use Rattle.std.proofs.Common.{◌≡◌, ℕ, ◌<◌, ◌^◌, List, [], ◌∷◌, refl, arith}
use Rattle.std.specs.Prelude.{Err, Result}
use Rattle.cow_fork.specs.Forks.{IsSharersFullError}
use Rattle.cow_fork.specs.declared.fork_process.ForkError.{ForkError}
use Rattle.cow_fork.specs.declared.fork_process.ForkError.TheVariants as why
use Rattle.frame_store.specs.Plain.{PlainState, PlainStateInvariant, held_within, to_front}
use Rattle.frame_store.specs.View.{references, View}

-- where no count is full, frames are too few
pub which : {A : Type 0} (r : Result A ForkError) (e : ForkError) → r ≡ Err e → (IsSharersFullError r → ⊥) → e ≡ why.NoFrame
which r why.NoFrame is never = refl
which r why.SharersFull is never = absurd (never is)

-- a frame of the second seat is one of those that there are
pub second_inside : (b : PlainState) (u v : View) (others : List View) → PlainStateInvariant b (u ∷ v ∷ others) → (f : ℕ) → references v f ≡ 1 → f < 2 ^ 16
second_inside b u v others rule f one =
    let within = held_within b v (u ∷ others) (to_front b.words b.counts b.free (u ∷ []) v others rule) in
    let few = within.0 in
    let below = within.1 f (omega (arith, one)) in
    omega (arith, below, few)
