-- Laws of lists of regions in order of address (`Row`): how rows are joined or widened, that their pages lie between the
-- ends, what holds of each region (`EachRegion`), and which region of a list holds a page (`region_at`). Also `SameRights`:
-- two regions grant alike.
use Rattle.std.proofs.Common.{◌≡◌, ℕ, Bool, true, false, ◌<◌, ◌≤◌, ◌⊎◌, inl, inr, refl, subst, arith, List, [], ◌∷◌, ◌++◌, Option, None, Some}
use Rattle.std.specs.Prelude.{nat_le, nat_lt, if◌then◌else◌}
use Rattle.std.proofs.lemmas.Bool.{and_from, and_left, and_parts, and_right, cases_Bool, le-leb, le-ltb, leb-true, lt-leb, lt-ltb, ltb-true}
use Rattle.std.proofs.lemmas.Option.{same_Some}
use Rattle.process_model.specs.Order.{EachRegion, Row}
use Rattle.process_model.specs.Regions.{Region, end_of, holds_page, region_at}

-- ---- rows

pub row_up : (least low high : ℕ) (rs : List Region) → Row least low rs high → low ≤ high
row_up least low high [] row = row
row_up least low high (r ∷ rs) row = let rest = row_up least (end_of r) high rs row.2 in omega (arith, row.0, rest)

pub row_lower : (least a b high : ℕ) (rs : List Region) → a ≤ b → Row least b rs high → Row least a rs high
row_lower least a b high [] le row = omega (arith, le, row)
row_lower least a b high (r ∷ rs) le row = (omega (arith, le, row.0), row.1, row.2)

pub row_append : (least low middle high : ℕ) (rs ss : List Region) → Row least low rs middle → Row least middle ss high → Row least low (rs ++ ss) high
row_append least low middle high [] ss row rest = row_lower least low middle high ss row rest
row_append least low middle high (r ∷ rs) ss row rest = (row.0, row.1, row_append least (end_of r) middle high rs ss row.2 rest)

pub row_least : (least low high : ℕ) (rs : List Region) → Row least low rs high → Row 0 low rs high
row_least least low high [] row = row
row_least least low high (r ∷ rs) row = (row.0, omega arith, row_least least (end_of r) high rs row.2)

-- ---- what holds of each region

pub each_append : (P : Region → Type 0) (rs ss : List Region) → EachRegion P rs → EachRegion P ss → EachRegion P (rs ++ ss)
each_append P [] ss all rest = rest
each_append P (r ∷ rs) ss all rest = (all.0, each_append P rs ss all.1 rest)

pub each_as : (P Q : Region → Type 0) → ((r : Region) → P r → Q r) → (rs : List Region) → EachRegion P rs → EachRegion Q rs
each_as P Q so [] all = tt
each_as P Q so (r ∷ rs) all = (so r all.0, each_as P Q so rs all.1)

pub each_at : (P : Region → Type 0) (rs : List Region) (n : ℕ) (r : Region) → EachRegion P rs → region_at rs n ≡ Some r → P r
each_at P [] n r all is = absurd (cc)
each_at P (x ∷ rs) n r all is = go (each_at P rs n r all.1) (holds_page x n) is
  where
    go : (region_at rs n ≡ Some r → P r) → (b : Bool) → (if b then Some x else region_at rs n) ≡ Some r → P r
    go later true at = subst P (same_Some x r at) all.0
    go later false at = later at

-- ---- the pages of a region

pub held : (r : Region) (page : ℕ) → holds_page r page ≡ true → (r.first ≤ page) × (page < end_of r)
held r page e = let parts = and_parts (nat_le r.first page) (nat_lt page (end_of r)) e in (leb-true r.first page parts.0, ltb-true page (end_of r) parts.1)

pub holds : (r : Region) (page : ℕ) → r.first ≤ page → page < end_of r → holds_page r page ≡ true
holds r page above below = and_from (nat_le r.first page) (nat_lt page (end_of r)) (le-leb r.first page above) (lt-ltb page (end_of r) below)

pub not_held : (r : Region) (page : ℕ) → (page < r.first) ⊎ (end_of r ≤ page) → holds_page r page ≡ false
not_held r page (inl below) = and_left (nat_le r.first page) (nat_lt page (end_of r)) (lt-leb r.first page below)
not_held r page (inr above) = and_right (nat_le r.first page) (nat_lt page (end_of r)) (le-ltb page (end_of r) above)

-- ---- the region that holds a page

pub here : (r : Region) (rs : List Region) (n : ℕ) → holds_page r n ≡ true → region_at (r ∷ rs) n ≡ Some r
here r rs n held = rw held refl

pub passed : (r : Region) (rs : List Region) (n : ℕ) → holds_page r n ≡ false → region_at (r ∷ rs) n ≡ region_at rs n
passed r rs n other = rw other refl

-- the region that holds a page is the first of a list, or the one that the rest gives
pub here_or_later : (x : Region) (rs : List Region) (n : ℕ) (r : Region) → region_at (x ∷ rs) n ≡ Some r
    → ((holds_page x n ≡ true) × (x ≡ r)) ⊎ ((holds_page x n ≡ false) × (region_at rs n ≡ Some r))
here_or_later x rs n r is = elim (cases_Bool (holds_page x n)) [
  | inl held ↦ inl (held, same_Some x r (rw held at is))
  | inr other ↦ inr (other, rw other at is)
]

pub in_first : (rs ss : List Region) (n : ℕ) (r : Region) → region_at rs n ≡ Some r → region_at (rs ++ ss) n ≡ Some r
in_first [] ss n r is = absurd (cc)
in_first (x ∷ rs) ss n r is = elim (cases_Bool (holds_page x n)) [
  | inl held ↦ rw held (rw held at is)
  | inr other ↦ rw other (in_first rs ss n r (rw other at is))
]

pub none_in_first : (rs ss : List Region) (n : ℕ) → region_at rs n ≡ None → region_at (rs ++ ss) n ≡ region_at ss n
none_in_first [] ss n none = refl
none_in_first (x ∷ rs) ss n none = elim (cases_Bool (holds_page x n)) [
  | inl held ↦ absurd (let both = rw held at none in cc)
  | inr other ↦ rw other (none_in_first rs ss n (rw other at none))
]

pub behind_all : (rs ss : List Region) (n : ℕ) (r : Region) → region_at rs n ≡ None → holds_page r n ≡ true → region_at (rs ++ r ∷ ss) n ≡ Some r
behind_all rs ss n r none held = rw (none_in_first rs (r ∷ ss) n none) (here r ss n held)

-- the region that holds a page in two lists joined is that of the first; or that of the second, if the first has none
pub first_or_second : (rs ss : List Region) (n : ℕ) (r : Region) → region_at (rs ++ ss) n ≡ Some r
    → (region_at rs n ≡ Some r) ⊎ ((region_at rs n ≡ None) × (region_at ss n ≡ Some r))
first_or_second [] ss n r is = inr (refl, is)
first_or_second (x ∷ rs) ss n r is = elim (cases_Bool (holds_page x n)) [
  | inl held ↦ inl (rw held (rw held at is))
  | inr other ↦ elim (first_or_second rs ss n r (rw other at is)) [
    | inl first ↦ inl (rw other first)
    | inr second ↦ inr (rw other second.0, second.1)
  ]
]

-- ---- a row's pages lie between its ends

pub row_within : (least low high n : ℕ) (rs : List Region) (r : Region) → Row least low rs high → region_at rs n ≡ Some r → (low ≤ n) × (n < high)
row_within least low high n [] r row is = absurd (cc)
row_within least low high n (x ∷ rs) r row is = elim (here_or_later x rs n r is) [
  | inl first ↦
      let inside = held x n first.0 in
      let up = row_up least (end_of x) high rs row.2 in
      (omega (arith, row.0, inside.0), omega (arith, up, inside.1))
  | inr later ↦
      let rest = row_within least (end_of x) high n rs r row.2 later.1 in
      (omega (arith, row.0, rest.0), rest.1)
]

pub row_outside : (least low high n : ℕ) (rs : List Region) → Row least low rs high → (n < low) ⊎ (high ≤ n) → region_at rs n ≡ None
row_outside least low high n rs row out = go (region_at rs n) refl out
  where
    go : (o : Option Region) → region_at rs n ≡ o → (n < low) ⊎ (high ≤ n) → o ≡ None
    go None is out = refl
    go (Some r) is (inl below) = absurd (let within = row_within least low high n rs r row is in omega (arith, below, within.0))
    go (Some r) is (inr above) = absurd (let within = row_within least low high n rs r row is in omega (arith, above, within.1))

-- ---- regions with the same rights

-- y grants what x grants, and is of the same kind
pub record SameRights (x y : Region) : Type 0 where
  pub reads : y.reads ≡ x.reads
  pub writes : y.writes ≡ x.writes
  pub executes : y.executes ≡ x.executes
  pub kind : y.kind ≡ x.kind

pub own_rights : (x : Region) → SameRights x x
own_rights x = record { reads = refl; writes = refl; executes = refl; kind = refl }
