-- An array of events after one of its places was written.
use Rattle.std.proofs.Common.{◌≡◌, ℕ, zero, suc, ◌+◌, ◌<◌, ◌≤◌, List, [], ◌∷◌, length, Option, Some, refl, ap, ap₂, ◌∙◌, arith, add-one}
use Rattle.std.specs.Prelude.{slice_get, slice_set}
use Rattle.std.proofs.lemmas.List.{length-set}
use Rattle.std.proofs.lemmas.Grind.{common_steps}
use Rattle.access_history.specs.declared.event.Event.{Event}
use Rattle.lent_history.specs.Events.{event_in, event_or, first_before, history, or_else, word_before, word_before_or}
use Rattle.lent_history.specs.Lent.{count_of}
use Rattle.lent_history.specs.Recording.{Adds, with_count}
use Rattle.lent_history.specs.declared.event.LentEvent.{LentEvent}
use Rattle.lent_history.specs.declared.hart.LentHart.{LentHart}

here : (es : List LentEvent) (n : ℕ) (e : LentEvent) → n < length es → slice_get (slice_set es n e) n ≡ Some e
here [] n e lt = absurd (omega (arith, lt))
here (x ∷ es) zero e lt = refl
here (x ∷ es) (suc n) e lt = here es n e (omega (arith, lt))

before : (es : List LentEvent) (n k : ℕ) (e : LentEvent) → k < n → slice_get (slice_set es n e) k ≡ slice_get es k
before [] n k e lt = refl
before (x ∷ es) zero k e lt = absurd (omega (arith, lt))
before (x ∷ es) (suc n) zero e lt = refl
before (x ∷ es) (suc n) (suc k) e lt = before es n k e (omega (arith, lt))

history_before : (es : List LentEvent) (n k : ℕ) (e : LentEvent) → k ≤ n → history (slice_set es n e) k ≡ history es k
history_before es n zero e le = refl
history_before es n (suc k) e le =
    ap₂ (λ (o : Option LentEvent) (h : List Event). event_or o ∷ h) (before es n k e (omega (arith, le))) (history_before es n k e (omega (arith, le)))

words_before : (es : List LentEvent) (n k : ℕ) (e : LentEvent) (p i : ℕ) → k ≤ n → first_before (slice_set es n e) k p i ≡ first_before es k p i
words_before es n zero e p i le = refl
words_before es n (suc k) e p i le =
    ap₂ (λ (w : Option ℕ) (o : Option LentEvent). or_else w (word_before_or o p i)) (words_before es n k e p i (omega (arith, le))) (before es n k e (omega (arith, le)))

count_more : (h : LentHart) (n capacity : ℕ) → n < capacity → count_of (with_count h (n + 1)) capacity ≡ n + 1
count_more h n capacity lt = grind (arith, common_steps)

pub count_below : (h : LentHart) (capacity n : ℕ) → n ≡ count_of h capacity → (n ≡ capacity → ⊥) → n < capacity
count_below h capacity n is ne = grind (arith, common_steps)

pub adds : (h : LentHart) (es : List LentEvent) (e : LentEvent) (n : ℕ) → n ≡ count_of h (length es) → n < length es
    → Adds (event_in e) (word_before e) h es (with_count h (n + 1)) (slice_set es n e)
adds h es e n count lt =
    let counts : count_of (with_count h (n + 1)) (length (slice_set es n e)) ≡ suc n =
    ap (count_of (with_count h (n + 1))) (length-set es n e) ∙ count_more h n (length es) lt ∙ add-one n in
    record {
      events =
          ap (history (slice_set es n e)) counts
          ∙ ap₂ (λ (o : Option LentEvent) (h : List Event). event_or o ∷ h) (here es n e lt) (history_before es n n e (omega arith))
          ∙ ap (λ (k : ℕ). event_in e ∷ history es k) count;
      hart = ap (λ (k : ℕ). with_count h (k + 1)) count;
      memory = λ p i.
          ap (λ (k : ℕ). first_before (slice_set es n e) k p i) counts
          ∙ ap₂ (λ (w : Option ℕ) (o : Option LentEvent). or_else w (word_before_or o p i)) (words_before es n n e p i (omega arith)) (here es n e lt)
          ∙ ap (λ (k : ℕ). or_else (first_before es k p i) (word_before e p i)) count;
    }
