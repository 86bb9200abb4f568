-- Lemmas for the tests of clients of a frame store: what the places of a `Pool` hold and know after a fill and a close; the
-- word known in a frame just filled; and a second seat, opened beside the first.
use Rattle.std.proofs.Common.{◌≡◌, ℕ, List, [], ◌∷◌, Option, None, Some, replicate, ap, sym, subst, ◌∙◌}
use Rattle.std.specs.Prelude.{slice_get, slice_index, slice_set, IsSome}
use Rattle.std.proofs.lemmas.Option.{get_or_from_slice_get}
use Rattle.frame_store.specs.View.{View, IsHeld, joined, known_word, opening_view}
use Rattle.frame_store.specs.Laws.{IsSeatOf, KeepsSeats}
use Rattle.frame_store.specs.Seats.{ComesFront, GoesBack}
use Rattle.frame_clients.specs.FilledFrames.{filled, filled_holds, known_word-filled}
use Rattle.frame_store.specs.SeatOpening.{opener, opened}
use Rattle.frame_clients.specs.Places.{view_at}
use Rattle.frame_store.specs.SeatJoin.{joined_second, joined_knows}

-- the places of the first test
module _ {size : ℕ} (made two full : List (Option View)) (f : ℕ) (words : List ℕ)
    (making : made ≡ Some (opening_view size) ∷ replicate 2 None)
    (opening : two ≡ slice_set (slice_set made 0 (Some (opener (view_at made 0)))) 2 (Some (opened (view_at made 0))))
    (filling : full ≡ slice_set two 2 (Some (filled f words (view_at two 2)))) where
  seated : two ≡ Some (opener (opening_view size)) ∷ None ∷ Some (opened (opening_view size)) ∷ []
  seated = opening ∙ ap (λ ps. slice_set (slice_set ps 0 (Some (opener (view_at ps 0)))) 2 (Some (opened (view_at ps 0)))) making

  after : full ≡ Some (opener (opening_view size)) ∷ None ∷ Some (filled f words (opened (opening_view size))) ∷ []
  after = filling ∙ ap (λ ps. slice_set ps 2 (Some (filled f words (view_at ps 2)))) seated

  -- through the place that was filled
  pub held_there : IsHeld (view_at full 2) f
  held_there = subst (λ ps. IsHeld (view_at ps 2) f) (sym after) (filled_holds f words (opened (opening_view size)))

  pub known_there : (i : ℕ) → known_word (view_at full 2) f i ≡ slice_get words i
  known_there i = ap (λ ps. known_word (view_at ps 2) f i) after ∙ known_word-filled f words (opened (opening_view size)) i

  -- the word that was read there
  pub read_there : (i w : ℕ) → known_word (view_at full 2) f i ≡ Some w → slice_get words i ≡ Some w
  read_there i w is = sym (known_there i) ∙ is

  -- through the place into which it was closed
  module _ (read closed last : List (Option View)) (reading : read ≡ full) (closing : closed ≡ slice_set (slice_set read 2 None) 0 (Some (joined (view_at read 0) (view_at read 2)))) (ending : last ≡ closed) where
    taken_in : view_at last 0 ≡ joined (view_at full 0) (view_at full 2)
    taken_in =
        let shut : List (Option View) → List (Option View) = λ ps. slice_set (slice_set ps 2 None) 0 (Some (joined (view_at full 0) (view_at full 2))) in
        ap (λ ps. view_at ps 0) (ending ∙ closing ∙ ap (λ ps. slice_set (slice_set ps 2 None) 0 (Some (joined (view_at ps 0) (view_at ps 2)))) reading ∙ ap shut after)

    pub held_on : IsHeld (view_at last 0) f
    held_on = subst (λ v. IsHeld v f) (sym taken_in) (joined_second _ _ f held_there)

    pub known_on : (i : ℕ) → IsSome (slice_get words i) → IsSome (known_word (view_at last 0) f i)
    known_on i some = subst (λ v. IsSome (known_word v f i)) (sym taken_in) (joined_knows _ _ f i held_there (subst IsSome (sym (known_there i)) some))

-- the word that is known in a frame just filled
pub known_by_filling : (words : List ℕ) (i f x : ℕ) (v w : View) → w ≡ filled f words v → known_word w f i ≡ Some x → x ≡ slice_index words i
known_by_filling words i f x v w is known = sym (get_or_from_slice_get words i x 0 (sym (ap (λ u. known_word u f i) is ∙ known_word-filled f words v i) ∙ known))

-- a seat opens a second one, which steps beside it
module _ {Store Seat : Type 0} (invariant : Store → List Seat → Type 0) {s t : Store} {a b new : Seat} (front : ComesFront (invariant t))
    (opening : (others : List Seat) → invariant s (a ∷ others) → invariant t (b ∷ new ∷ others)) where
  pub second_fits : IsSeatOf invariant s a → IsSeatOf invariant t new
  second_fits fits = (b ∷ fits.0, front (b ∷ []) new fits.0 (opening fits.0 fits.1))

  pub second_steps : {u : Store} {later : Seat} → GoesBack (invariant u) → KeepsSeats invariant t new u later → (others : List Seat) → invariant s (a ∷ others) → invariant u (b ∷ later ∷ others)
  second_steps {later} back stepping others r = back (b ∷ []) later others (stepping (b ∷ others) (front (b ∷ []) new others (opening others r)))
