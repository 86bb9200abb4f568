-- Laws of `mapping_place` (where mmap puts a mapping): a page is the place if and only if the mapping fits there (`Fits`)
-- and at no greater page; there is no place if and only if it fits nowhere.
use Rattle.std.proofs.Common.{◌≡◌, ℕ, zero, suc, Bool, true, false, cond, ◌&&◌, ◌||◌, ◌+◌, ◌-◌, ◌≤◌, ◌⊎◌, inl, inr, max, min, refl, sym, ap}
use Rattle.std.proofs.Common.{◌∙◌, arith, List, [], ◌∷◌, Option, None, Some, map}
use Rattle.std.specs.Prelude.{nat_le, filter, fold, slice_get, if◌then◌else◌}
use Rattle.std.specs.List.{list_all}
use Rattle.std.proofs.lemmas.Bool.{and_parts}
use Rattle.std.proofs.lemmas.Option.{same_Some}
use Rattle.process_model.specs.Bytes.{pages_for}
use Rattle.process_model.proofs.GrantLaws.{place_fits as place_passes}
use Rattle.process_model.proofs.MappingRows.{apart_sides}
use Rattle.process_model.specs.Regions.{Region, end_of}
use Rattle.process_model.specs.Process.{Process}
use Rattle.process_model.specs.Mappings.{Fits, fits_at, is_apart, greatest, places, mapping_place}
use Rattle.sv39_entry.specs.Schemes.{trapframe_page}

le_of : (a b : ℕ) → nat_le a b ≡ true → a ≤ b
le_of a b e = grind arith

le_to : (a b : ℕ) → a ≤ b → nat_le a b ≡ true
le_to a b e = grind arith

both : (x y : Bool) → x ≡ true → y ≡ true → (x && y) ≡ true
both x y a b = rw (a, b)

left : (x y : Bool) → x ≡ true → (x || y) ≡ true
left x y e = rw e

right : (x y : Bool) → y ≡ true → (x || y) ≡ true
right true y e = refl
right false y e = e

-- members of lists, and the greatest one

abbrev Member : ℕ → List ℕ → Type 0
Member x [] = ⊥
Member x (y ∷ ys) = (x ≡ y) ⊎ Member x ys

fold_max_start : (n : ℕ) (ns : List ℕ) → n ≤ fold max n ns
fold_max_start n [] = omega arith
fold_max_start n (m ∷ ns) = let above : max n m ≤ fold max (max n m) ns = fold_max_start (max n m) ns in omega arith

fold_max_member : (n x : ℕ) (ns : List ℕ) → Member x ns → x ≤ fold max n ns
fold_max_member n x [] i = absurd i
fold_max_member n x (m ∷ ns) (inl e) = let above : max n m ≤ fold max (max n m) ns = fold_max_start (max n m) ns in omega arith
fold_max_member n x (m ∷ ns) (inr i) = fold_max_member (max n m) x ns i

greatest_above : (x a : ℕ) (xs : List ℕ) → Member x xs → greatest xs ≡ Some a → x ≤ a
greatest_above x a [] i e = absurd i
greatest_above x a (n ∷ ns) (inl same) e = let is : fold max n ns ≡ a = same_Some _ a e in let above : n ≤ fold max n ns = fold_max_start n ns in omega arith
greatest_above x a (n ∷ ns) (inr i) e = let is : fold max n ns ≡ a = same_Some _ a e in let above : x ≤ fold max n ns = fold_max_member n x ns i in omega arith

none_is_greatest : (x : ℕ) (xs : List ℕ) → greatest xs ≡ None → Member x xs → ⊥
none_is_greatest x [] e i = i
none_is_greatest x (n ∷ ns) e i = cc

member_filter : (f : ℕ → Bool) (x : ℕ) (xs : List ℕ) → Member x xs → f x ≡ true → Member x (filter f xs)
member_filter f x [] i e = absurd i
member_filter f x (y ∷ ys) (inl same) e = let passes : f y ≡ true = ap f (sym same) ∙ e in rw passes (inl same)
member_filter f x (y ∷ ys) (inr i) e =
    elim (f y) as (λ b. Member x (cond b (y ∷ filter f ys) (filter f ys))) [ true ↦ inr (member_filter f x ys i e) | false ↦ member_filter f x ys i e ]

member_map : (f : ℕ → ℕ) (x : ℕ) (xs : List ℕ) → Member x xs → Member (f x) (map f xs)
member_map f x [] i = absurd i
member_map f x (y ∷ ys) (inl e) = inl (ap f e)
member_map f x (y ∷ ys) (inr i) = inr (member_map f x ys i)

-- `fits_at` and `Fits` agree

apart_to : (first pages : ℕ) (m : Region) → (first + pages ≤ m.first) ⊎ (end_of m ≤ first) → is_apart first pages m ≡ true
apart_to first pages m (inl l) = left _ _ (le_to (first + pages) m.first l)
apart_to first pages m (inr l) = right _ _ (le_to (end_of m) first l)

all_apart_of : (first pages i : ℕ) (m : Region) (ms : List Region) → list_all (is_apart first pages) ms ≡ true → slice_get ms i ≡ Some m
    → (first + pages ≤ m.first) ⊎ (end_of m ≤ first)
all_apart_of first pages i m [] all e = absurd (cc)
all_apart_of first pages zero m (n ∷ ms) all e =
    apart_sides first pages m (ap (is_apart first pages) (sym (same_Some n m e))
    ∙ (and_parts (is_apart first pages n) (list_all (is_apart first pages) ms) all).0)
all_apart_of first pages (suc i) m (n ∷ ms) all e =
    all_apart_of first pages i m ms (and_parts (is_apart first pages n) (list_all (is_apart first pages) ms) all).1 e

all_apart_to : (first pages : ℕ) (ms : List Region)
    → ((i : ℕ) (m : Region) → slice_get ms i ≡ Some m → (first + pages ≤ m.first) ⊎ (end_of m ≤ first)) → list_all (is_apart first pages) ms ≡ true
all_apart_to first pages [] f = refl
all_apart_to first pages (m ∷ ms) f =
    both (is_apart first pages m) _ (apart_to first pages m (f 0 m refl)) (all_apart_to first pages ms (λ i n e. f (suc i) n e))

fits_of : (p : Process) (pages first : ℕ) → fits_at p pages first ≡ true → Fits p pages first
fits_of p pages first fits =
    let outer = and_parts (nat_le (pages_for p.size) first
    && nat_le (first + pages) (trapframe_page p.scheme)) (list_all (is_apart first pages) p.mappings) fits in
    let inner = and_parts (nat_le (pages_for p.size) first) (nat_le (first + pages) (trapframe_page p.scheme)) outer.0 in
    record { above = le_of _ _ inner.0; below = le_of _ _ inner.1; apart = λ i m e. all_apart_of first pages i m p.mappings outer.1 e }

fits_to : (p : Process) (pages first : ℕ) → Fits p pages first → fits_at p pages first ≡ true
fits_to p pages first f =
    both _ _ (both _ _ (le_to (pages_for p.size) first f.above) (le_to (first + pages) (trapframe_page p.scheme) f.below))
    (all_apart_to first pages p.mappings f.apart)

-- the least of `e` and those first pages of mappings that are `low` or above
abbrev nearer : ℕ → ℕ → ℕ → ℕ
nearer low e first = if nat_le low first then min e first else e

abbrev nearest : ℕ → ℕ → List Region → ℕ
nearest low e [] = e
nearest low e (m ∷ ms) = nearest low (nearer low e m.first) ms

min_is : (a b : ℕ) → (min a b ≡ a) ⊎ (min a b ≡ b)
min_is a b = elim (nat_le a b) as (λ t. nat_le a b ≡ t → (min a b ≡ a) ⊎ (min a b ≡ b)) [ true ↦ λ h. inl (grind arith) | false ↦ λ h. inr (grind arith) ] refl

nearer_is : (low e first : ℕ) → (nearer low e first ≡ e) ⊎ (nearer low e first ≡ first)
nearer_is low e first = elim (nat_le low first) as (λ b. (cond b (min e first) e ≡ e)
    ⊎ (cond b (min e first) e ≡ first)) [ true ↦ min_is e first | false ↦ inl refl ]

nearer_below : (low e first : ℕ) → nearer low e first ≤ e
nearer_below low e first = elim (nat_le low first) as (λ b. cond b (min e first) e ≤ e) [ true ↦ omega arith | false ↦ omega arith ]

nearer_first : (low e first : ℕ) → low ≤ first → nearer low e first ≤ first
nearer_first low e first h = rw (le_to low first h) (omega arith)

nearer_low : (low e first : ℕ) → low ≤ e → low ≤ nearer low e first
nearer_low low e first h =
    elim (nat_le low first) as (λ b. nat_le low first ≡ b
    → low ≤ cond b (min e first) e) [ true ↦ λ t. let l : low ≤ first = le_of low first t in omega arith | false ↦ λ t. h ] refl

nearest_below : (low e : ℕ) (ms : List Region) → nearest low e ms ≤ e
nearest_below low e [] = omega arith
nearest_below low e (m ∷ ms) =
    let rest : nearest low (nearer low e m.first) ms ≤ nearer low e m.first = nearest_below low (nearer low e m.first) ms in
    let step : nearer low e m.first ≤ e = nearer_below low e m.first in
    omega (step, rest, arith)

nearest_low : (low e : ℕ) (ms : List Region) → low ≤ e → low ≤ nearest low e ms
nearest_low low e [] h = h
nearest_low low e (m ∷ ms) h = nearest_low low (nearer low e m.first) ms (nearer_low low e m.first h)

-- it is at or below the first page of each mapping that begins at `low` or above
nearest_first : (low e i : ℕ) (m : Region) (ms : List Region) → slice_get ms i ≡ Some m → low ≤ m.first → nearest low e ms ≤ m.first
nearest_first low e i m [] is h = absurd (cc)
nearest_first low e zero m (n ∷ ms) is h =
    let rest : nearest low (nearer low e n.first) ms ≤ nearer low e n.first = nearest_below low (nearer low e n.first) ms in
    let same : n.first ≡ m.first = ap (λ (r : Region). r.first) (same_Some n m is) in
    let step : nearer low e n.first ≤ n.first = nearer_first low e n.first (omega (same, h, arith)) in
    omega (rest, same, step, arith)
nearest_first low e (suc i) m (n ∷ ms) is h = nearest_first low (nearer low e n.first) i m ms is h

nearest_member : (low e : ℕ) (ms : List Region) → Member (nearest low e ms) (e ∷ map (λ m. m.first) ms)
nearest_member low e [] = inl refl
nearest_member low e (m ∷ ms) = elim (nearest_member low (nearer low e m.first) ms) [
  | inr i ↦ inr (inr i)
  | inl is ↦ elim (nearer_is low e m.first) [ inl same ↦ inl (is ∙ same) | inr same ↦ inr (inl (is ∙ same)) ]
]

-- where the run ends if it is moved up until it meets a mapping or the trapframe
abbrev end_above : Process → ℕ → ℕ → ℕ
end_above p pages first = nearest (first + pages) (trapframe_page p.scheme) p.mappings

end_low : (p : Process) (pages first : ℕ) → Fits p pages first → first + pages ≤ end_above p pages first
end_low p pages first f = nearest_low (first + pages) (trapframe_page p.scheme) p.mappings f.below

-- moved up, it still fits
moved_up : (p : Process) (pages first r : ℕ) → r ≡ end_above p pages first → Fits p pages first → Fits p pages (r - pages)
moved_up p pages first r is f =
    let low : first + pages ≤ end_above p pages first = end_low p pages first f in
    let top : end_above p pages first ≤ trapframe_page p.scheme = nearest_below (first + pages) (trapframe_page p.scheme) p.mappings in
    let above : pages_for p.size ≤ first = f.above in
    record {
      above = omega (is, low, above, arith);
      below = omega (is, low, top, arith);
      apart = λ i m e. elim (f.apart i m e) [
        | inl l ↦ let near : end_above p pages first ≤ m.first =
            nearest_first (first + pages) (trapframe_page p.scheme) i m p.mappings e l in inl (omega (is, low, near, arith))
        | inr l ↦ inr (omega (is, low, l, arith))
      ];
    }

-- if a run fits, one at or above it is among those that are tried and fit
tried : (p : Process) (pages first : ℕ) → Fits p pages first → Member (end_above p pages first - pages) (filter (fits_at p pages) (places p pages))
tried p pages first f = member_filter (fits_at p pages) _ (places p pages)
    (member_map (λ end. end - pages) _ (trapframe_page p.scheme
    ∷ map (λ m. m.first) p.mappings) (nearest_member (first + pages) (trapframe_page p.scheme) p.mappings))
    (fits_to p pages _ (moved_up p pages first (end_above p pages first) refl f))

-- a mapping fits at its place
pub place_fits : (p : Process) (pages first : ℕ) → mapping_place p pages ≡ Some first → Fits p pages first
place_fits p pages first is = fits_of p pages first (place_passes p pages first is)

-- it fits at no page above its place
pub none_above : (p : Process) (pages first other : ℕ) → mapping_place p pages ≡ Some first → Fits p pages other → other ≤ first
none_above p pages first other is f =
    let low : other + pages ≤ end_above p pages other = end_low p pages other f in
    let found : end_above p pages other - pages ≤ first =
    greatest_above (end_above p pages other - pages) first (filter (fits_at p pages) (places p pages)) (tried p pages other f) is in
    omega (low, found, arith)

-- if there is no place, it fits at no page
pub none_fits : (p : Process) (pages first : ℕ) → mapping_place p pages ≡ None → Fits p pages first → ⊥
none_fits p pages first is f = none_is_greatest _ (filter (fits_at p pages) (places p pages)) is (tried p pages first f)

module _ (p : Process) (pages first : ℕ) where
  of_place : (o : Option ℕ) → mapping_place p pages ≡ o → Fits p pages first → ((other : ℕ) → Fits p pages other → other ≤ first) → o ≡ Some first
  of_place None is fits most = absurd (none_fits p pages first is fits)
  of_place (Some other) is fits most =
      let up = none_above p pages other first is fits in
      let down = most other (place_fits p pages other is) in
      ap Some (omega (arith, up, down))

  -- a page at which it fits is its place, if it fits at no greater one
  pub place_is : Fits p pages first → ((other : ℕ) → Fits p pages other → other ≤ first) → mapping_place p pages ≡ Some first
  place_is fits most = of_place (mapping_place p pages) refl fits most

module _ (p : Process) (pages : ℕ) where
  of_none : (o : Option ℕ) → mapping_place p pages ≡ o → ((other : ℕ) → Fits p pages other → ⊥) → o ≡ None
  of_none None is none = refl
  of_none (Some other) is none = absurd (none other (place_fits p pages other is))

  -- if it fits at no page, there is no place
  pub place_is_none : ((other : ℕ) → Fits p pages other → ⊥) → mapping_place p pages ≡ None
  place_is_none none = of_none (mapping_place p pages) refl none
