-- `PageMap`: finite maps from page numbers, as lists of entries in ascending order: lookup, insertion, selection by key, a
-- function on every value, keys. `NumberSet`: sets of numbers, as such maps. Two maps with equal lookups are equal, and the
-- checker can compute with them.
use Rattle.std.specs.Prelude.{◌≡◌, ℕ, Bool, ◌&&◌, T, List, [], ◌∷◌, map, length, is_some, Option}
use Rattle.std.proofs.Common.{refl, ap, subst, sym, ◌∙◌}
use Rattle.std.specs.Ordering.{nat_cmp, is_lt}
use Rattle.std.specs.Cmp.{nat_cmp_total}
use Rattle.std.specs.FinMap.Entries.{put, find, where_key, is_sorted, below_all, is_sorted-put, is_sorted-where_key}

pub record PageMap (X : Type 0) : Type 0 where
  pub entries : List (ℕ × X)
  pub sorted : T (is_sorted nat_cmp entries)

-- a function applied to every value, with its key: the keys stay, so they stay in order
module _ {X : Type 0} (f : ℕ → X → X) where
  abbrev pub each_value : List (ℕ × X) → List (ℕ × X)
  each_value [] = []
  each_value (e ∷ es) = (e.0, f e.0 e.1) ∷ each_value es

  below_each : (k : ℕ) (es : List (ℕ × X)) → below_all nat_cmp k (each_value es) ≡ below_all nat_cmp k es
  below_each k [] = refl
  below_each k (e ∷ es) = ap (λ b. is_lt (nat_cmp k e.0) && b) (below_each k es)

  same_order : (es : List (ℕ × X)) → is_sorted nat_cmp (each_value es) ≡ is_sorted nat_cmp es
  same_order [] = refl
  same_order (e ∷ es) = ap (λ b. b && is_sorted nat_cmp (each_value es)) (below_each e.0 es) ∙ ap (λ b. below_all nat_cmp e.0 es && b) (same_order es)

  pub each_sorted : (es : List (ℕ × X)) → T (is_sorted nat_cmp es) → T (is_sorted nat_cmp (each_value es))
  each_sorted es h = subst T (sym (same_order es)) h

module _ {X : Type 0} where
  abbrev pub get : PageMap X → ℕ → Option X
  get m k = find nat_cmp k m.entries

  abbrev pub insert : PageMap X → ℕ → X → PageMap X
  insert m k v = record { entries = put nat_cmp k v m.entries; sorted = is_sorted-put nat_cmp nat_cmp_total k v m.entries m.sorted }

  -- the entries whose keys pass a test
  abbrev pub only : (ℕ → Bool) → PageMap X → PageMap X
  only p m = record { entries = where_key nat_cmp p m.entries; sorted = is_sorted-where_key nat_cmp p m.entries m.sorted }

  -- the map with a function applied to every key and value
  abbrev pub with_values : (ℕ → X → X) → PageMap X → PageMap X
  with_values f m = record { entries = each_value f m.entries; sorted = each_sorted f m.entries m.sorted }

  abbrev pub keys : PageMap X → List ℕ
  keys m = map (λ e. e.0) m.entries

abbrev pub empty : (X : Type 0) → PageMap X
empty X = record { entries = []; sorted = tt }

abbrev pub from_list : {X : Type 0} → List (ℕ × X) → PageMap X
from_list {X} [] = empty X
from_list {X} (e ∷ es) = insert (from_list es) e.0 e.1

-- a set of numbers
abbrev pub NumberSet : Type 0
NumberSet = PageMap (Unit {0})

abbrev pub with_numbers : NumberSet → List ℕ → NumberSet
with_numbers s [] = s
with_numbers s (n ∷ ns) = insert (with_numbers s ns) n tt

abbrev pub numbers : List ℕ → NumberSet
numbers ns = with_numbers (empty (Unit {0})) ns

abbrev pub contains : NumberSet → ℕ → Bool
contains s n = is_some (get s n)

abbrev pub count : NumberSet → ℕ
count s = length s.entries
