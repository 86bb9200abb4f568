-- Lemmas: no frame is below number 0 (`counts_none`), and what is added to each list by one more frame (`pages_step`, `counts_step`).
use Rattle.std.proofs.Common.{◌≡◌, refl, sym, ap, ◌∙◌, ℕ, ◌+◌, Bool, List, [], ◌∷◌, ◌++◌, add-one, filter, map}
use Rattle.std.proofs.lemmas.List.{map-append}
use Rattle.std.proofs.lemmas.List.Elements.{filter-append}
use Rattle.walk_lines.specs.declared.numbers.Hex.{Hex}
use Rattle.line_traces.specs.Frames.{counts_below, counts_of, page_of}
use Rattle.line_traces.specs.declared.frames.Recount.{Recount}

pub counts_none : (before after : List ℕ) → counts_below before after 0 ≡ []
unfolding counts_below
counts_none before after = refl

counts_more : (before after : List ℕ) (n : ℕ) → counts_below before after (n + 1) ≡ counts_below before after n ++ counts_of before after n ∷ []
unfolding counts_below
counts_more before after n = rw add-one refl

module _ (p : Recount → Bool) (before after : List ℕ) (n : ℕ) where
  passing_more : filter p (counts_below before after (n + 1)) ≡ filter p (counts_below before after n) ++ filter p (counts_of before after n ∷ [])
  passing_more = ap (filter p) (counts_more before after n) ∙ filter-append p (counts_below before after n) (counts_of before after n ∷ [])

  pages_more : map page_of (filter p (counts_below before after (n + 1)))
      ≡ map page_of (filter p (counts_below before after n)) ++ map page_of (filter p (counts_of before after n ∷ []))
  pages_more = ap (map page_of) passing_more ∙ map-append page_of (filter p (counts_below before after n)) (filter p (counts_of before after n ∷ []))

  pub pages_step : (old new : List Hex) (it : Recount) → new ≡ old ++ map page_of (filter p (it ∷ [])) → it ≡ counts_of before after n
      → old ≡ map page_of (filter p (counts_below before after n)) → new ≡ map page_of (filter p (counts_below before after (n + 1)))
  pages_step old new it new_is it_is old_is =
      new_is
      ∙ ap (λ (xs : List Hex). xs ++ map page_of (filter p (it ∷ []))) old_is
      ∙ ap (λ (i : Recount). map page_of (filter p (counts_below before after n)) ++ map page_of (filter p (i ∷ []))) it_is
      ∙ sym pages_more

  pub counts_step : (old new : List Recount) (it : Recount) → new ≡ old ++ filter p (it ∷ []) → it ≡ counts_of before after n
      → old ≡ filter p (counts_below before after n) → new ≡ filter p (counts_below before after (n + 1))
  counts_step old new it new_is it_is old_is =
      new_is
      ∙ ap (λ (xs : List Recount). xs ++ filter p (it ∷ [])) old_is
      ∙ ap (λ (i : Recount). filter p (counts_below before after n) ++ filter p (i ∷ [])) it_is
      ∙ sym passing_more
