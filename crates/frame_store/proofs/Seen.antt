-- Lemmas: if a result of a search is right of the words in memory (`IsNextIn`, `IsNextBusy`), it is right as far as any
-- seat knows these words (`IsNextWord`, `IsNextBusyWord`), since a known word is the word there.
use Rattle.std.proofs.Common.{◌≡◌, ℕ, ◌+◌, ◌*◌, inl, inr, List, ◌∷◌, slice_index, sym, subst, ◌∙◌, ◌⊎◌, Option, None, Some}
use Rattle.frame_store.specs.ZeroWords.{IdleIn, IsNextBusy, IsNextIn, NamesBlank, ZerosIn}
use Rattle.frame_store.specs.NextWord.{AreIdle, AreZeros, IsNextBusyWord, IsNextWord, NamesZeros}
use Rattle.frame_store.specs.Plain.{PlainInvariant}
use Rattle.frame_store.specs.View.{View}
use Rattle.frame_store.proofs.PlainSteps.{known_there}

module _ (words counts : List ℕ) (free : ℕ) (v : View) (vs : List View) (r : PlainInvariant words counts free (v ∷ vs)) where
  zeros_seen : (f first end : ℕ) → ZerosIn words f first end → AreZeros v f first end
  zeros_seen f first end zeros i w from lt known = sym (known_there words counts free v vs f r i w known) ∙ zeros i from lt

  idle_seen : (f first end : ℕ) → IdleIn words f first end → AreIdle v f first end
  idle_seen f first end idle i w from lt known =
      let is : slice_index words (512 * f + i) ≡ w = known_there words counts free v vs f r i w known in
      elim (idle i from lt) as (λ _. (w ≡ 0) ⊎ NamesZeros v w) [
        | inl zero ↦ inl (sym is ∙ zero)
        | inr names ↦ let blank : NamesBlank words w = subst (NamesBlank words) is names in inr (blank.0, blank.1, zeros_seen blank.0.0 0 512 blank.2)
      ]

  pub next_seen : (f first last : ℕ) (o : Option (ℕ × ℕ)) → IsNextIn words f first last o → IsNextWord v f first last o
  next_seen f first last None zeros = zeros_seen f first last zeros
  next_seen f first last (Some p) next =
      (next.0.from, next.0.before, zeros_seen f first p.0 next.1, next.0.some, λ w known. sym next.0.is ∙ known_there words counts free v vs f r p.0 w known)

  pub busy_seen : (f first last : ℕ) (o : Option (ℕ × ℕ)) → IsNextBusy words f first last o → IsNextBusyWord v f first last o
  busy_seen f first last None idle = idle_seen f first last idle
  busy_seen f first last (Some p) next =
      (next.0.from, next.0.before, idle_seen f first p.0 next.1, next.0.some, λ w known. sym next.0.is ∙ known_there words counts free v vs f r p.0 w known)
