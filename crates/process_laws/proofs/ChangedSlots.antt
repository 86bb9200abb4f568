-- A slot is among those that a step changed if and only if its process started or its leaves changed (`among_changed`).
use Rattle.std.proofs.Common.{◌≡◌, ◌==◌, ◌||◌, ◌+◌, ◌<◌, ℕ, zero, suc, Bool, true, false, refl, ap, ◌∙◌, arith, List, [], ◌∷◌, Option, None, Some}
use Rattle.std.specs.List.{list_any}
use Rattle.std.specs.Prelude.{slice_get, if◌then◌else◌}
use Rattle.std.proofs.lemmas.Bool.{eq-eqb, ne_eqb}
use Rattle.process_laws.specs.Words.{changed_at}
use Rattle.process_model.specs.Process.{Process}
use Rattle.process_model.specs.Stale.{changed_slots, is_changed}

-- only numbers from n on are named
below_none : (n s : ℕ) (ps qs : List (Option Process)) → s < n → list_any (λ m. m == s) (changed_slots n ps qs) ≡ false
below_none n s [] [] less = refl
below_none n s [] (q ∷ qs) less = refl
below_none n s (p ∷ ps) [] less = refl
below_none n s (p ∷ ps) (q ∷ qs) less =
    let rest = below_none (n + 1) s ps qs (omega arith) in
    elim (is_changed p q) as (λ b. list_any (λ m. m == s) (if b then n ∷ changed_slots (n + 1) ps qs else changed_slots (n + 1) ps qs) ≡ false) [
      | true ↦ ap (λ b. b || list_any (λ m. m == s) (changed_slots (n + 1) ps qs)) (ne_eqb n s (λ same. omega arith)) ∙ rest
      | false ↦ rest
    ]

among_from : (n s k : ℕ) (ps qs : List (Option Process)) → k ≡ s + n → list_any (λ m. m == k) (changed_slots n ps qs) ≡ changed_at (slice_get ps s) (slice_get qs s)
among_from n s k [] [] is = refl
among_from n s k [] (q ∷ qs) is = refl
among_from n zero k (p ∷ ps) [] is = refl
among_from n (suc s) k (p ∷ ps) [] is = elim (slice_get ps s) as (λ o. false ≡ changed_at o None) [ None ↦ refl | Some x ↦ refl ]
among_from n zero k (p ∷ ps) (q ∷ qs) is =
    let rest = below_none (n + 1) k ps qs (omega arith) in
    elim (is_changed p q) as (λ b. list_any (λ m. m == k) (if b then n ∷ changed_slots (n + 1) ps qs else changed_slots (n + 1) ps qs) ≡ b) [
      | true ↦ ap (λ b. b || list_any (λ m. m == k) (changed_slots (n + 1) ps qs)) (eq-eqb n k (omega arith))
      | false ↦ rest
    ]
among_from n (suc s) k (p ∷ ps) (q ∷ qs) is =
    let rest = among_from (n + 1) s k ps qs (omega arith) in
    elim (is_changed p q) as (λ b. list_any (λ m. m == k) (if b then n ∷ changed_slots (n + 1) ps qs else changed_slots (n + 1) ps qs) ≡ changed_at (slice_get ps s) (slice_get qs s)) [
      | true ↦ ap (λ b. b || list_any (λ m. m == k) (changed_slots (n + 1) ps qs)) (ne_eqb n k (λ same. omega arith)) ∙ rest
      | false ↦ rest
    ]

-- a slot is named where it changes
pub among_changed : (ps qs : List (Option Process)) (s : ℕ) → list_any (λ n. n == s) (changed_slots 0 ps qs) ≡ changed_at (slice_get ps s) (slice_get qs s)
among_changed ps qs s = among_from 0 s s ps qs (omega arith)
