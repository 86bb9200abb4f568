-- Lemma for the loop of `Buffer::matching`: the numbers below n + 1 at which a test of list elements holds are those below
-- n, and then n itself if the test holds there.
use Rattle.std.proofs.Common.{◌≡◌, ℕ, ◌+◌, ◌<◌, Bool, cond, Option, Some, List, [], ◌∷◌, ◌++◌, filter, get_or, length, slice_get, refl, arith}
use Rattle.std.specs.List.{range_with_len}
use Rattle.std.proofs.lemmas.List.{map-id}
use Rattle.std.proofs.lemmas.List.FromFn.{filter_of_map_range_with_len_more}
use Rattle.std.proofs.lemmas.Option.{slice_get_read}

filter_more : (p : ℕ → Bool) (n : ℕ) → filter p (range_with_len 0 (n + 1)) ≡ filter p (range_with_len 0 n) ++ cond (p n) (n ∷ []) []
filter_more p n = simp map-id at (filter_of_map_range_with_len_more p (λ k. k) 0 n n (omega arith))

pub numbers_more : {E : Type 0} (p : Option E → Bool) (es : List E) (n : ℕ) (e : E) (old : List ℕ) → n < length es → e ≡ get_or es n e
    → old ≡ filter (λ k. p (slice_get es k)) (range_with_len 0 n)
    → old ++ cond (p (Some e)) (n ∷ []) [] ≡ filter (λ k. p (slice_get es k)) (range_with_len 0 (n + 1))
numbers_more p es n e old less is same =
    let at = slice_get_read es (length es) n e refl less is in
    rw (filter_more (λ k. p (slice_get es k)) n, at, ← same) refl
