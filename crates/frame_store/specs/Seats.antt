-- Laws for an owner of one frame store and a list of places, each empty or with a seat. If a store's seats may be in any
-- order (`ComesFront`, `GoesBack`), its invariant for all seats that are `present` is kept as the seat of one place makes a
-- call (`place_step`), is split into an empty place (`place_split`), or joins that of another place (`place_join`). Also laws
-- of writes to a list.
use Rattle.std.proofs.Common.{◌≡◌, ℕ, zero, suc, ◌<◌, List, [], ◌∷◌, ◌++◌, Option, None, Some, length, take, drop, map, refl, ap, sym, subst, ◌∙◌, arith}
use Rattle.std.specs.Prelude.{slice_get, slice_set}
use Rattle.std.proofs.lemmas.List.{set_split, set-set, map-append}
use Rattle.std.proofs.lemmas.Option.{same_Some, slice_get_within}

-- An owner of one store and a list of places, each with a seat or empty: the store's invariant holds of the seats that are
-- there.

-- the seats of the places that have one, in order
abbrev pub present : {Seat : Type 0} → List (Option Seat) → List Seat
present [] = []
present (None ∷ places) = present places
present (Some s ∷ places) = s ∷ present places

-- the two laws of a store at one of its states, by which the order of the seats does not matter: a seat may be moved to the
-- front of the list, and from the front to any place in it
abbrev pub ComesFront : {Seat : Type 0} → (List Seat → Type 0) → Type 0
ComesFront {Seat} holds = (xs : List Seat) (a : Seat) (ys : List Seat) → holds (xs ++ a ∷ ys) → holds (a ∷ xs ++ ys)

abbrev pub GoesBack : {Seat : Type 0} → (List Seat → Type 0) → Type 0
GoesBack {Seat} holds = (xs : List Seat) (a : Seat) (ys : List Seat) → holds (a ∷ xs ++ ys) → holds (xs ++ a ∷ ys)

-- these two laws, with one more seat k before all others
module _ {Seat : Type 0} (holds : List Seat → Type 0) (k : Seat) (front : ComesFront holds) (back : GoesBack holds) where
  pub comes_front-behind : ComesFront (λ seats. holds (k ∷ seats))
  comes_front-behind xs a ys h = back (k ∷ []) a (xs ++ ys) (front (k ∷ xs) a ys h)

  pub goes_back-behind : GoesBack (λ seats. holds (k ∷ seats))
  goes_back-behind xs a ys h = back (k ∷ xs) a ys (front (k ∷ []) a (xs ++ ys) h)

-- these two laws for a list of owners, each with a seat
module _ {Seat Owner : Type 0} (holds : List Seat → Type 0) (seat_of : Owner → Seat) where
  pub comes_front-map : ComesFront holds → ComesFront (λ owners. holds (map seat_of owners))
  comes_front-map front xs a ys h =
      subst (λ seats. holds (seat_of a
      ∷ seats)) (sym (map-append seat_of xs ys)) (front (map seat_of xs) (seat_of a) (map seat_of ys) (subst holds (map-append seat_of xs (a ∷ ys)) h))

  pub goes_back-map : GoesBack holds → GoesBack (λ owners. holds (map seat_of owners))
  goes_back-map back xs a ys h =
      subst holds (sym (map-append seat_of xs (a
      ∷ ys))) (back (map seat_of xs) (seat_of a) (map seat_of ys) (subst (λ seats. holds (seat_of a ∷ seats)) (map-append seat_of xs ys) h))

-- what is read at a place after a write to it, and after a write to another place
pub place_set_same : {A : Type 0} (places : List A) (i : ℕ) (a : A) → i < length places → slice_get (slice_set places i a) i ≡ Some a
place_set_same [] i a lt = absurd (omega arith)
place_set_same (x ∷ places) zero a lt = refl
place_set_same (x ∷ places) (suc i) a lt = place_set_same places i a (omega arith)

pub place_set_other : {A : Type 0} (places : List A) (i j : ℕ) (a : A) → (j ≡ i → ⊥) → slice_get (slice_set places i a) j ≡ slice_get places j
place_set_other [] i j a apart = refl
place_set_other (x ∷ places) zero zero a apart = absurd (apart refl)
place_set_other (x ∷ places) zero (suc j) a apart = refl
place_set_other (x ∷ places) (suc i) zero a apart = refl
place_set_other (x ∷ places) (suc i) (suc j) a apart = place_set_other places i j a (λ e. apart (ap suc e))

-- to write to a place what it has changes nothing
pub place_set_back : {A : Type 0} (places : List A) (i : ℕ) (a : A) → slice_get places i ≡ Some a → slice_set places i a ≡ places
place_set_back [] i a is = refl
place_set_back (x ∷ places) zero a is = ap (λ y. y ∷ places) (sym (same_Some x a is))
place_set_back (x ∷ places) (suc i) a is = ap (λ ys. x ∷ ys) (place_set_back places i a is)

-- a place with a seat is not an empty place
pub places_apart : {Seat : Type 0} (places : List (Option Seat)) (i j : ℕ) (s : Seat) → slice_get places i ≡ Some (Some s)
    → slice_get places j ≡ Some None → j ≡ i → ⊥
places_apart places i j s is empty e = let both : ◌≡◌ {A = Option (Option _)} (Some (Some s)) (Some None) = sym is
    ∙ ap (slice_get places) (sym e) ∙ empty in absurd (cc)

present-append : {Seat : Type 0} (before after : List (Option Seat)) → present (before ++ after) ≡ present before ++ present after
present-append [] after = refl
present-append (None ∷ before) after = present-append before after
present-append (Some s ∷ before) after = ap (λ seats. s ∷ seats) (present-append before after)

-- the seats after a write to place i: those before it, the one written if there is one, and those after it
present-set : {Seat : Type 0} (places : List (Option Seat)) (i : ℕ) (o : Option Seat) → i < length places
    → present (slice_set places i o) ≡ present (take i places) ++ present (o ∷ drop (suc i) places)
present-set places i o lt = ap present (set_split places i o lt) ∙ present-append (take i places) (o ∷ drop (suc i) places)

module _ {Seat : Type 0} (holds : List Seat → Type 0) (places : List (Option Seat)) (i : ℕ) where
  -- the seat of place i is moved to the front of the list, and the place is empty then
  pub place_out : ComesFront holds → (s : Seat) → slice_get places i ≡ Some (Some s) → holds (present places) → holds (s ∷ present (slice_set places i None))
  place_out front s is h =
      let lt : i < length places = slice_get_within places i (Some s) is in
      let whole : present places ≡ present (take i places) ++ s ∷ present (drop (suc i) places) =
      ap present (sym (place_set_back places i (Some s) is)) ∙ present-set places i (Some s) lt in
      subst (λ seats. holds (s ∷ seats)) (sym (present-set places i None lt)) (front _ _ _ (subst holds whole h))

  -- the seat at the front of the list is moved to the empty place i
  pub place_in : GoesBack holds → (s : Seat) → slice_get places i ≡ Some None → holds (s ∷ present places) → holds (present (slice_set places i (Some s)))
  place_in back s is h =
      let lt : i < length places = slice_get_within places i None is in
      let whole : present places ≡ present (take i places) ++ present (drop (suc i) places) =
      ap present (sym (place_set_back places i None is)) ∙ present-set places i None lt in
      subst holds (sym (present-set places i (Some s) lt)) (back _ _ _ (subst (λ seats. holds (s ∷ seats)) whole h))

-- the seats of places i and j are moved to the front of the list
module _ {Seat : Type 0} (holds : List Seat → Type 0) (front : ComesFront holds) (back : GoesBack holds) (places : List (Option Seat)) (i j : ℕ) where
  pub places_out : (s t : Seat) → slice_get places i ≡ Some (Some s) → slice_get places j ≡ Some (Some t) → (j ≡ i → ⊥)
      → holds (present places) → holds (t ∷ s ∷ present (slice_set (slice_set places i None) j None))
  places_out s t is also apart h =
      front (s ∷ []) t _ (place_out (λ seats. holds (s
      ∷ seats)) (slice_set places i None) j (comes_front-behind holds s front back) t (place_set_other places i j None apart
      ∙ also) (place_out holds places i front s is h))

-- A call of the store: `holds` is its invariant before the call, `after` its invariant afterwards.
module _ {Seat : Type 0} (holds after : List Seat → Type 0) (front : ComesFront holds) (back : GoesBack after) (places : List (Option Seat)) (i : ℕ) where
  -- the seat of place i makes a call, and stays in its place
  pub place_step : (s t : Seat) → slice_get places i ≡ Some (Some s) → ((others : List Seat) → holds (s ∷ others) → after (t ∷ others))
      → holds (present places) → after (present (slice_set places i (Some t)))
  place_step s t is step h =
      subst (λ ps. after (present ps)) (set-set places i None (Some t))
      (place_in after (slice_set places i None) i back t (place_set_same places i None (slice_get_within places i (Some s) is))
      (step _ (place_out holds places i front s is h)))

  -- the seat of place i makes a call that returns a new seat, for the empty place j
  pub place_split : ComesFront after → (j : ℕ) (s t u : Seat) → slice_get places i ≡ Some (Some s) → slice_get places j ≡ Some None
      → ((others : List Seat) → holds (s ∷ others) → after (t ∷ u ∷ others))
      → holds (present places) → after (present (slice_set (slice_set places i (Some t)) j (Some u)))
  place_split onward j s t u is empty step h =
      place_in after (slice_set places i (Some t)) j back u (place_set_other places i j (Some t) (places_apart places i j s is empty) ∙ empty)
      (subst (λ ps. after (u ∷ present ps)) (set-set places i None (Some t))
      (place_in (λ seats. after (u
      ∷ seats)) (slice_set places i None) i (goes_back-behind after u onward back) t (place_set_same places i None (slice_get_within places i (Some s) is))
      (onward (t ∷ []) u _ (step _ (place_out holds places i front s is h)))))

  -- the seat of place i ends, joined to the seat of place j, and place i is empty then
  pub place_join : GoesBack holds → (j : ℕ) (s t u : Seat) → slice_get places i ≡ Some (Some s) → slice_get places j ≡ Some (Some t) → (j ≡ i → ⊥)
      → ((others : List Seat) → holds (t ∷ s ∷ others) → after (u ∷ others))
      → holds (present places) → after (present (slice_set (slice_set places i None) j (Some u)))
  place_join leaves j s t u is also apart step h =
      let left : List (Option Seat) = slice_set places i None in
      let lt : j < length left = slice_get_within left j (Some t) (place_set_other places i j None apart ∙ also) in
      subst (λ ps. after (present ps)) (set-set left j None (Some u))
      (place_in after (slice_set left j None) j back u (place_set_same left j None lt) (step _ (places_out holds front leaves places i j s t is also apart h)))
