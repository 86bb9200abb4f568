-- Lemmas for `Pool`: its invariant (`PoolInvariant`) holds at first, and is kept as the seat of a place makes a call
-- (`pool_step`), opens a seat in an empty place (`pool_split`) or ends, joined to another (`pool_join`); and what the
-- code reads from places and writes to them is what the clauses of its calls say.
use Rattle.std.proofs.Common.{◌≡◌, ℕ, ◌+◌, ◌-◌, ◌<◌, ◌≤◌, zero, suc, List, [], ◌∷◌, ◌++◌, replicate, append_assoc, Option, None, Some, Result, length, get_or, inl, inr, refl, ap, sym, subst, ◌∙◌, arith}
use Rattle.std.specs.Prelude.{slice_get, slice_set, IfOk}
use Rattle.std.proofs.lemmas.Result.{IfOk-weaker}
use Rattle.std.proofs.lemmas.Bool.Decides.{eqb_tells}
use Rattle.std.proofs.lemmas.Option.{slice_get-get_or, slice_get_within, same_Some}
use Rattle.std.proofs.lemmas.List.{get_or-set_other, replicate_more}
use Rattle.frame_store.specs.View.{View, IsHeld, joined, opening_view}
use Rattle.frame_store.specs.Holds.{opening_holds}
use Rattle.frame_store.specs.Laws.{IsSeatOf, KeepsSeats}
use Rattle.frame_store.specs.Plain.{PlainState, PlainStateInvariant, to_front, to_back}
use Rattle.frame_store.specs.Seats.{present, place_out, place_set_same, place_set_other, place_step, place_split, place_join, places_apart, places_out}
use Rattle.sv39_entry.specs.declared.frame.FrameNo.{FrameNo}
use Rattle.frame_store.specs.declared.refusal.NoFrame.{NoFrame}
use Rattle.frame_clients.specs.FilledFrames.{filled}
use Rattle.frame_store.specs.SeatOpening.{opener, opened}
use Rattle.frame_clients.specs.Places.{PoolInvariant, IsSeated, IsEmpty, view_at, view_or_empty}

-- what the code reads in a place of its vector
module _ (places now : List (Option View)) (i : ℕ) (is : places ≡ now) where
  pub within : (o : Option View) → slice_get now i ≡ Some o → i < length places
  within o there = slice_get_within places i o (ap (λ ps. slice_get ps i) is ∙ there)

  pub empty_there : IsEmpty now i → slice_get places i ≡ Some None
  empty_there empty = ap (λ ps. slice_get ps i) is ∙ empty

  pub seat_there : (o : Option View) (s : View) → IsSeated now i → o ≡ get_or places i o → o ≡ Some s → slice_get places i ≡ Some (Some s)
  seat_there o s seated read found = slice_get-get_or places i o (within _ seated) ∙ ap (λ x. Some x) (sym read ∙ found)

  -- also after another place was written
  pub seat_still_there : (j : ℕ) (x o : Option View) (s : View) → (i ≡ j → ⊥) → IsSeated now i → o ≡ get_or (slice_set places j x) i o → o ≡ Some s → slice_get places i ≡ Some (Some s)
  seat_still_there j x o s apart seated read found = seat_there o s seated (read ∙ get_or-set_other places j i x o apart) found

  pub view_there : (s : View) → slice_get places i ≡ Some (Some s) → view_at now i ≡ s
  view_there s there = ap (λ ps. view_at ps i) (sym is) ∙ ap view_or_empty there

  -- the same views, as the clauses name them
  module _ (s : View) (there : slice_get places i ≡ Some (Some s)) where
    pub at_seat : (P : View → Type 0) → P (view_at now i) → P s
    at_seat P h = subst P (view_there s there) h

    pub of_seat : (P : View → Type 0) → P s → P (view_at now i)
    of_seat P h = subst P (sym (view_there s there)) h

    pub written_view : (t : View) → view_at (slice_set places i (Some t)) i ≡ t
    written_view t = ap view_or_empty (place_set_same places i (Some t) (slice_get_within places i _ there))

    pub of_step : (R : View → View → Type 0) (t : View) → R s t → R (view_at now i) (view_at (slice_set places i (Some t)) i)
    of_step R t h = subst (R (view_at now i)) (sym (written_view t)) (of_seat (λ v. R v t) h)

    pub written : (step : View → View) (t : View) → t ≡ step s → slice_set places i (Some t) ≡ slice_set now i (Some (step (view_at now i)))
    written step t e = ap (λ ps. slice_set ps i (Some t)) is ∙ ap (λ v. slice_set now i (Some v)) (e ∙ ap step (sym (view_there s there)))

    pub written_alone : (t : View) → slice_set places i (Some t) ≡ slice_set now i (Some (view_at (slice_set places i (Some t)) i))
    written_alone t = ap (λ ps. slice_set ps i (Some t)) is ∙ ap (λ v. slice_set now i (Some v)) (sym (written_view t))

    pub open_written : (j : ℕ) (t u : View) → t ≡ opener s → u ≡ opened s
        → slice_set (slice_set places i (Some t)) j (Some u) ≡ slice_set (slice_set now i (Some (opener (view_at now i)))) j (Some (opened (view_at now i)))
    open_written j t u et eu = ap (λ ps. slice_set ps j (Some u)) (written opener t et) ∙ ap (λ v. slice_set (slice_set now i (Some (opener (view_at now i)))) j (Some v)) (eu ∙ ap opened (sym (view_there s there)))

    pub fill_written : (r : Result FrameNo NoFrame) (words : List ℕ) (t : View) → IfOk r (λ f. t ≡ filled f.0 words s)
        → IfOk r (λ f. slice_set places i (Some t) ≡ slice_set now i (Some (filled f.0 words (view_at now i))))
    fill_written r words t h = IfOk-weaker r (λ f. t ≡ filled f.0 words s) (λ f. slice_set places i (Some t) ≡ slice_set now i (Some (filled f.0 words (view_at now i)))) (λ f. written (filled f.0 words) t) h

anchored-set : (places : List (Option View)) (i : ℕ) (o : Option View) → i < length places → ((v : View) → o ≡ Some v → IsHeld v 0)
    → ((j : ℕ) (v : View) → slice_get places j ≡ Some (Some v) → IsHeld v 0) → (j : ℕ) (v : View) → slice_get (slice_set places i o) j ≡ Some (Some v) → IsHeld v 0
anchored-set places i o lt new old j v there =
    elim (eqb_tells j i) as (λ _. IsHeld v 0) [
      | inl t ↦ new v (same_Some _ _ (sym (place_set_same places i o lt) ∙ ap (slice_get (slice_set places i o)) (sym t.1) ∙ there))
      | inr t ↦ old j v (sym (place_set_other places i j o t.1) ∙ there)
    ]

holds_it : (t : View) → IsHeld t 0 → (v : View) → Some t ≡ Some v → IsHeld v 0
holds_it t held v is = subst (λ u. IsHeld u 0) (same_Some _ _ is) held

module _ (b : PlainState) (places : List (Option View)) (r : PoolInvariant b places) (i : ℕ) (s : View) (there : slice_get places i ≡ Some (Some s)) where
  -- a call may be made for the seat
  pub pool_fits : IsSeatOf PlainStateInvariant b s
  pool_fits = (present (slice_set places i None), place_out (PlainStateInvariant b) places i (to_front _ _ _) s there r.invariant)

  -- and leaves the pool as it should be
  pub pool_step : (after : PlainState) (t : View) → IsHeld t 0 → KeepsSeats PlainStateInvariant b s after t → PoolInvariant after (slice_set places i (Some t))
  pool_step after t held keeps = record {
    invariant = place_step (PlainStateInvariant b) (PlainStateInvariant after) (to_front _ _ _) (to_back _ _ _) places i s t there keeps r.invariant;
    anchored = anchored-set places i (Some t) (slice_get_within places i _ there) (holds_it t held) r.anchored;
  }

  -- a new seat goes to an empty place
  pub pool_split : (after : PlainState) (j : ℕ) (t u : View) → slice_get places j ≡ Some None → IsHeld t 0 → IsHeld u 0
      → ((others : List View) → PlainStateInvariant b (s ∷ others) → PlainStateInvariant after (t ∷ u ∷ others)) → PoolInvariant after (slice_set (slice_set places i (Some t)) j (Some u))
  pool_split after j t u empty held also keeps = record {
    invariant = place_split (PlainStateInvariant b) (PlainStateInvariant after) (to_front _ _ _) (to_back _ _ _) places i (to_front _ _ _) j s t u there empty keeps r.invariant;
    anchored =
        let free : slice_get (slice_set places i (Some t)) j ≡ Some None = place_set_other places i j (Some t) (places_apart places i j s there empty) ∙ empty in
        anchored-set (slice_set places i (Some t)) j (Some u) (slice_get_within _ j None free) (holds_it u also)
        (anchored-set places i (Some t) (slice_get_within places i _ there) (holds_it t held) r.anchored);
  }

  -- the seat ends, and the one in another place takes it in
  module _ (j : ℕ) (t : View) (other : slice_get places j ≡ Some (Some t)) (apart : j ≡ i → ⊥) where
    pub join_fits : (others : List View) × PlainStateInvariant b (t ∷ s ∷ others)
    join_fits = (_, places_out (PlainStateInvariant b) (to_front _ _ _) (to_back _ _ _) places i j s t there other apart r.invariant)

    pub pool_join : (after : PlainState) (u : View) → IsHeld u 0
        → ((others : List View) → PlainStateInvariant b (t ∷ s ∷ others) → PlainStateInvariant after (u ∷ others)) → PoolInvariant after (slice_set (slice_set places i None) j (Some u))
    pool_join after u held keeps = record {
      invariant = place_join (PlainStateInvariant b) (PlainStateInvariant after) (to_front _ _ _) (to_back _ _ _) places i (to_back _ _ _) j s t u there other apart keeps r.invariant;
      anchored =
          let still : slice_get (slice_set places i None) j ≡ Some (Some t) = place_set_other places i j None apart ∙ other in
          anchored-set (slice_set places i None) j (Some u) (slice_get_within _ j _ still) (holds_it u held)
          (anchored-set places i None (slice_get_within places i _ there) (λ v e. absurd (cc)) r.anchored);
    }

-- what is written, as the clause names it
pub close_written : (places now : List (Option View)) (i j : ℕ) (is : places ≡ now) (s t u : View) (o : Option View) → slice_get places i ≡ Some (Some s) → slice_get places j ≡ Some (Some t)
    → o ≡ None → u ≡ joined t s → slice_set (slice_set places i o) j (Some u) ≡ slice_set (slice_set now i None) j (Some (joined (view_at now j) (view_at now i)))
close_written places now i j is s t u o there other gone e =
    ap (λ ps. slice_set (slice_set ps i o) j (Some u)) is ∙ ap (λ x. slice_set (slice_set now i x) j (Some u)) gone
    ∙ ap (λ v. slice_set (slice_set now i None) j (Some v)) (e ∙ ap (λ v. joined v s) (sym (view_there places now j is t other)) ∙ ap (joined (view_at now j)) (sym (view_there places now i is s there)))

present-replicate : {Seat : Type 0} (n : ℕ) → present {Seat = Seat} (replicate n None) ≡ []
present-replicate zero = refl
present-replicate (suc n) = present-replicate n

none_there : {Seat : Type 0} (n i : ℕ) (s : Seat) → slice_get (replicate n None) i ≡ Some (Some s) → ⊥
none_there zero i s e = absurd (cc)
none_there (suc n) zero s e = absurd (cc)
none_there (suc n) (suc i) s e = none_there n i s e

opening_anchored : (size : ℕ) (v : View) (n : ℕ) → v ≡ opening_view size → (i : ℕ) (w : View) → slice_get (Some v ∷ replicate n None) i ≡ Some (Some w) → IsHeld w 0
opening_anchored size v n is zero w e = opening_holds w (sym (same_Some _ _ (same_Some _ _ e)) ∙ is)
opening_anchored size v n is (suc i) w e = absurd (none_there n i w e)

-- one more empty place
pub one_pushed : {A : Type 0} (front xs ys : List A) (k : ℕ) (y : A) → 1 ≤ k → xs ≡ front ++ replicate (k - 1) y → ys ≡ xs ++ y ∷ [] → ys ≡ front ++ replicate (k + 1 - 1) y
one_pushed front xs ys k y some is pushed =
    let next : k - 1 + 1 ≡ k + 1 - 1 = omega arith in
    pushed ∙ ap (λ zs. zs ++ y ∷ []) is ∙ append_assoc front (replicate (k - 1) y) (y ∷ []) ∙ ap (λ zs. front ++ zs) (replicate_more (k - 1) y ∙ ap (λ n. replicate n y) next)

-- at first
pub pool_opening : (size : ℕ) (b : PlainState) (v : View) (places : List (Option View)) (n : ℕ) → places ≡ Some v ∷ replicate n None → v ≡ opening_view size → PlainStateInvariant b (v ∷ []) → PoolInvariant b places
pool_opening size b v places n made is r = subst (PoolInvariant b) (sym made) record {
  invariant = subst (λ vs. PlainStateInvariant b (v ∷ vs)) (sym (present-replicate n)) r;
  anchored = opening_anchored size v n is;
}
