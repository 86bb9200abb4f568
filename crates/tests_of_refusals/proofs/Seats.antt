-- Lemmas on the seats (owners' capabilities at the store) of a process, of its child, and of the keeper, which reserves
-- frames: frame 0 stays held, an opened seat is ready for a space, and a step of one keeps the store's invariant, wherever its
-- seat is in the list of all. For the tests on threads: two seats at one table of frames (`fits_both`).
use Rattle.std.proofs.Common.{◌≡◌, ℕ, ◌+◌, ◌<◌, false, ap, refl, subst, sym, ◌∙◌, List, [], ◌∷◌, ◌++◌, Option, None, Some, Result, Ok, Err, arith}
use Rattle.std.specs.Prelude.{IfErr, IfOk, is_some, option_map, option_to_list}
use Rattle.frame_store.specs.Holds.{hold_of-empty, hold_of-frames, hold_of-with_hold_other, hold_of-with_hold_same}
use Rattle.frame_store.specs.Laws.{IsSeatOf, IsDry, KeepsSeats}
use Rattle.frame_store.specs.SeatOpening.{opened}
use Rattle.frame_store.specs.ViewChanges.{puts}
use Rattle.frame_store.specs.Seats.{ComesFront, GoesBack}
use Rattle.frame_store.specs.View.{Hold, View, empty_view, hold_of, IsHeld, read_full, references, shared, with_credits}
use Rattle.address_space.specs.Agreement.{HoldsTrampoline}
use Rattle.address_space.specs.declared.space.Space.{Space}
use Rattle.shared_frames.specs.SeatsOfTable.{AllFit, FitsIn}
use Rattle.shared_frames.specs.declared.seat.SharedSeat.{SharedSeat}
use Rattle.atomic_table.specs.Seated.{TableId}

-- frame 0 stays held

same_frames : (v w : View) → w.frames ≡ v.frames → IsHeld v 0 → IsHeld w 0
same_frames v w is held = subst (λ (h : Hold). 0 < h.references) (sym (hold_of-frames w v is 0)) held

pub held_when_reserved : {A E : Type 0} (n : ℕ) (v w : View) (r : Result A E) → IfOk r (λ _. w ≡ with_credits n v) → IfErr r (λ _. IsDry n v w) → IsHeld v 0 → IsHeld w 0
held_when_reserved n v w (Ok x) ok err held = subst (λ u. IsHeld u 0) (sym ok) (same_frames v (with_credits n v) refl held)
held_when_reserved n v w (Err x) ok err held = same_frames v w err.frames held

pub held_when_shared : {A E : Type 0} (v w : View) (r : Result A E) → IfOk r (λ _. w ≡ shared 0 v) → IfErr r (λ _. w ≡ read_full v) → IsHeld v 0 → IsHeld w 0
held_when_shared v w (Ok x) ok err held = subst (λ u. IsHeld u 0) (sym ok) (subst (λ (h : Hold). 0 < h.references) (sym (puts 0 (record (hold_of v 0) { references = references v 0 + 1 }) v v refl).here) (omega arith))
held_when_shared v w (Err x) ok err held = subst (λ u. IsHeld u 0) (sym err) (same_frames v (read_full v) refl held)

-- a new seat is ready for a space
pub opened_ready : (v w : View) → w ≡ opened v → HoldsTrampoline w
opened_ready v w is = subst HoldsTrampoline (sym is) (record {
  once = ap (λ (h : Hold). h.references) (hold_of-with_hold_same 0 record { references = 1; sole = false; words = (hold_of v 0).words } (empty_view v.size));
  others = λ f other. ap (λ (h : Hold). h.references) (hold_of-with_hold_other 0 record { references = 1; sole = false; words = (hold_of v 0).words } (empty_view v.size) f other ∙ hold_of-empty v.size f);
  credits = refl;
})

-- the seat of the child, where there is one
abbrev pub seats_beside : {S : Type 0} → Option (Space S) → List S
seats_beside c = option_to_list (option_map (λ y. y.seat) c)

module _ {Store S : Type 0} (invariant : Store → List S → Type 0) where
  -- a seat that was opened steps, and the one that opened it stands behind it
  pub opened_fits : {s t : Store} {a b new : S} → ComesFront (invariant t) → ((others : List S) → invariant s (a ∷ others) → invariant t (b ∷ new ∷ others)) → IsSeatOf invariant s a → IsSeatOf invariant t new
  opened_fits {b = b} {new = new} front opening fits = (b ∷ fits.0, front (b ∷ []) new fits.0 (opening fits.0 fits.1))

  pub opened_keeps : {s t u : Store} {a b new later : S} → ComesFront (invariant t) → ((others : List S) → invariant s (a ∷ others) → invariant t (b ∷ new ∷ others))
      → KeepsSeats invariant t new u later → (others : List S) → invariant s (a ∷ others) → invariant u (later ∷ b ∷ others)
  opened_keeps {b = b} {new = new} front opening keeps others r = keeps (b ∷ others) (front (b ∷ []) new others (opening others r))

  -- a process steps, with its child beside it

  pub keeps_alone : (s t : Store) (a b : S) (xs : List S) → KeepsSeats invariant s a t b → (others : List S) → invariant s ((a ∷ xs) ++ others) → invariant t ((b ∷ xs) ++ others)
  keeps_alone s t a b xs keeps others r = keeps (xs ++ others) r

  -- a seat that stands behind both steps
  pub keeper_fits : (s : Store) (first : List S) (k : S) (others : List S) → ComesFront (invariant s) → invariant s (first ++ k ∷ others) → IsSeatOf invariant s k
  keeper_fits s first k others front r = (first ++ others, front first k others r)

  pub keeper_keeps : (s t : Store) (first : List S) (k m : S) → ComesFront (invariant s) → GoesBack (invariant t) → KeepsSeats invariant s k t m → (others : List S) → invariant s (first ++ k ∷ others) → invariant t (first ++ m ∷ others)
  keeper_keeps s t first k m front back keeps others r = back first m others (keeps (first ++ others) (front first k others r))

  -- a child came
  pub keeps_forked : (s t : Store) (a b made : S) (c : Option (Space S)) → c ≡ None → ((others : List S) → invariant s (a ∷ others) → invariant t (b ∷ made ∷ others))
      → (others : List S) → invariant s ((a ∷ seats_beside c) ++ others) → invariant t (b ∷ made ∷ others)
  keeps_forked s t a b made c none kept others r = kept others (subst (λ d. invariant s ((a ∷ seats_beside d) ++ others)) none r)

  -- the process ends alone
  pub ended_alone : (s t : Store) (a k : S) (c : Option (Space S)) → c ≡ None → KeepsSeats invariant s a t k → (others : List S) → invariant s ((a ∷ seats_beside c) ++ others) → invariant t (k ∷ others)
  ended_alone s t a k c none keeps others r = keeps others (subst (λ d. invariant s ((a ∷ seats_beside d) ++ others)) none r)

  -- the child's seat comes to the front, once the process has ended
  pub child_front : (s t : Store) (a k : S) (z : Space S) (c : Option (Space S)) → c ≡ Some z → ComesFront (invariant t) → KeepsSeats invariant s a t k
      → (others : List S) → invariant s ((a ∷ seats_beside c) ++ others) → invariant t (z.seat ∷ k ∷ others)
  child_front s t a k z c is front keeps others r = front (k ∷ []) z.seat others (keeps (z.seat ∷ others) (subst (λ d. invariant s ((a ∷ seats_beside d) ++ others)) is r))

-- there is no child yet
pub no_child : {A : Type 0} (o : Option A) → is_some o ≡ false → o ≡ None
no_child None is = refl
no_child (Some x) is = absurd (cc)

-- two seats at a table where there was one
pub fits_both : (z a b : TableId) (s t u : SharedSeat) → a ≡ z → ((others : List SharedSeat) → AllFit a (s ∷ others) → AllFit b (t ∷ u ∷ others)) → FitsIn z s → FitsIn z t × FitsIn z u
fits_both z a b s t u is kept fits =
    let here : FitsIn a s = subst (λ y. FitsIn y s) (sym is) fits in
    let after = kept (s ∷ []) (here, (here, tt)) in
    let same : b ≡ z = sym (after.1.1.0).0 ∙ here.0 ∙ is in
    (subst (λ y. FitsIn y t) same after.0, subst (λ y. FitsIn y u) same after.1.0)
