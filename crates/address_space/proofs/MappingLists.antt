-- Lemmas on a list of mappings in the code: one added in its place by address, one replaced, one removed. The result is the
-- model's list (`with_mapping`, `with_instead`), and the place found lies within the list.
use Rattle.std.proofs.Common.{◌≡◌, ℕ, suc, Bool, true, false, not, ◌+◌, ◌<◌, ◌≤◌, ap, ◌∙◌, refl, arith, List, [], ◌∷◌, ◌++◌, length, map, cond, slice_set, append-nil}
use Rattle.std.proofs.lemmas.Bool.Decides.{nat_tests}
use Rattle.std.proofs.lemmas.List.{drop_all, take_all}
use Rattle.std.proofs.lemmas.List.Sums.{prefix_len-le-length}
use Rattle.std.specs.Prelude.{◌==◌, nat_le, nat_lt, if◌then◌else◌, insert, remove, take}
use Rattle.std.specs.List.{prefix_len, refill}
use Rattle.process_model.specs.Mappings.{with_instead, with_mapping}
use Rattle.process_model.specs.Regions.{Region}
use Rattle.address_space.specs.Layouts.{region_of}
use Rattle.address_space.specs.declared.region.Region.{Region as CodeRegion}

abbrev pub places_up_to : ℕ → List CodeRegion → ℕ
places_up_to first rs = prefix_len (λ (r : CodeRegion). nat_le r.first first) rs

abbrev pub places_before : ℕ → List CodeRegion → ℕ
places_before first rs = prefix_len (λ (r : CodeRegion). not (r.first == first)) rs

one_more : (n : ℕ) → 1 + n ≡ suc n
one_more n = omega arith

pub mapping_added : (rs : List CodeRegion) (r : CodeRegion) → map region_of (insert rs (places_up_to r.first rs) r) ≡ with_mapping (region_of r) (map region_of rs)
mapping_added [] r = refl
mapping_added (m ∷ rs) r = go (nat_le m.first r.first) (nat_lt r.first m.first) (grind (arith, nat_tests)) (mapping_added rs r)
  where
    go : (a b : Bool) → b ≡ not a → map region_of (insert rs (places_up_to r.first rs) r) ≡ with_mapping (region_of r) (map region_of rs)
        → map region_of (insert (m ∷ rs) (cond a (1 + places_up_to r.first rs) 0) r)
        ≡ (if b then region_of r ∷ region_of m ∷ map region_of rs else region_of m ∷ with_mapping (region_of r) (map region_of rs))
    go true true is rest = absurd (cc)
    go true false is rest = ap (λ k. map region_of (insert (m ∷ rs) k r)) (one_more (places_up_to r.first rs)) ∙ ap (λ ms. region_of m ∷ ms) rest
    go false true is rest = refl
    go false false is rest = absurd (cc)

-- no mapping begins there
pub none_begins : (rs : List CodeRegion) (first : ℕ) (ms : List Region) → places_before first rs ≡ length rs → map region_of rs ≡ with_instead (map region_of rs) first ms
none_begins [] first ms none = refl
none_begins (m ∷ rs) first ms none = go (m.first == first) none (none_begins rs first ms)
  where
    go : (a : Bool) → cond (not a) (1 + places_before first rs) 0 ≡ suc (length rs) → (places_before first rs ≡ length rs → map region_of rs ≡ with_instead (map region_of rs) first ms)
        → region_of m ∷ map region_of rs ≡ (if a then ms ++ map region_of rs else region_of m ∷ with_instead (map region_of rs) first ms)
    go true is rest = absurd (omega (arith, is))
    go false is rest = ap (λ xs. region_of m ∷ xs) (rest (omega (arith, is)))

pub mapping_gone : (rs : List CodeRegion) (first : ℕ) → places_before first rs < length rs → map region_of (remove rs (places_before first rs)) ≡ with_instead (map region_of rs) first []
mapping_gone [] first less = absurd (omega (arith, less))
mapping_gone (m ∷ rs) first less = go (m.first == first) less (mapping_gone rs first)
  where
    go : (a : Bool) → cond (not a) (1 + places_before first rs) 0 < suc (length rs)
        → (places_before first rs < length rs → map region_of (remove rs (places_before first rs)) ≡ with_instead (map region_of rs) first [])
        → map region_of (remove (m ∷ rs) (cond (not a) (1 + places_before first rs) 0)) ≡ (if a then map region_of rs else region_of m ∷ with_instead (map region_of rs) first [])
    go true is rest = refl
    go false is rest = ap (λ k. map region_of (remove (m ∷ rs) k)) (one_more (places_before first rs)) ∙ ap (λ xs. region_of m ∷ xs) (rest (omega (arith, is)))

pub mapping_changed : (rs : List CodeRegion) (first : ℕ) (r : CodeRegion) → places_before first rs < length rs
    → map region_of (slice_set rs (places_before first rs) r) ≡ with_instead (map region_of rs) first (region_of r ∷ [])
mapping_changed [] first r less = absurd (omega (arith, less))
mapping_changed (m ∷ rs) first r less = go (m.first == first) less (mapping_changed rs first r)
  where
    go : (a : Bool) → cond (not a) (1 + places_before first rs) 0 < suc (length rs)
        → (places_before first rs < length rs → map region_of (slice_set rs (places_before first rs) r) ≡ with_instead (map region_of rs) first (region_of r ∷ []))
        → map region_of (slice_set (m ∷ rs) (cond (not a) (1 + places_before first rs) 0) r)
        ≡ (if a then region_of r ∷ map region_of rs else region_of m ∷ with_instead (map region_of rs) first (region_of r ∷ []))
    go true is rest = refl
    go false is rest = ap (λ k. map region_of (slice_set (m ∷ rs) k r)) (one_more (places_before first rs)) ∙ ap (λ xs. region_of m ∷ xs) (rest (omega (arith, is)))

-- the place that was found is one of the list, or the end of it
pub place_within : (rs : List CodeRegion) (first : ℕ) → places_before first rs ≤ length rs
place_within rs first = prefix_len-le-length (λ (r : CodeRegion). not (r.first == first)) rs

pub room_within : (rs : List CodeRegion) (first : ℕ) → places_up_to first rs ≤ length rs
room_within rs first = prefix_len-le-length (λ (r : CodeRegion). nat_le r.first first) rs

-- a list that is written back whole is the written one
pub all_refilled : (rs ws : List CodeRegion) → length ws ≡ length rs → refill (length rs) rs ws ≡ ws
all_refilled rs ws same =
    ap (λ d. take (length rs) (ws ++ d)) (drop_all (length ws) rs (omega (arith, same))) ∙ ap (take (length rs)) (append-nil ws) ∙ take_all (length rs) ws (omega (arith, same))
