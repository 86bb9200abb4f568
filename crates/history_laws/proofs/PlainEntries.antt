-- Lemmas of one page table entry without Svnapot and Svpbmt: a leaf is one at each level; it has none of bits 63 to 54; and V is set.
use Rattle.std.proofs.Common.{◌≡◌, ◌≢◌, ℕ, zero, suc, ◌/◌, ◌%◌, ◌^◌, ◌==◌, ◌&&◌, ◌||◌, not, Bool, true, false, refl, sym, ◌∙◌, arith, inl, inr, Some, if◌then◌else◌}
use Rattle.std.proofs.lemmas.Bool.{cases_Bool, cases_eq, eq-eqb, false≢true, ne_eqb}
use Rattle.sv39_entry.specs.Address.{has}
use Rattle.sv39_entry.specs.Word.{kind_of, ppn}
use Rattle.sv39_entry.specs.declared.entry.Kind.{Kind}
use Rattle.sv39_entry.specs.declared.entry.Kind.TheVariants.{Invalid, Leaf, Pointer}
use Rattle.walk_rules.specs.Kinds.{has_reserved, kind_in, memory_type, pbmt, reserved_in_pointer}
use Rattle.walk_rules.specs.declared.extensions.Extensions.{Extensions}
use Rattle.walk_rules.specs.declared.memory_type.MemoryType.TheVariants.{Pma}
use Rattle.access_history.proofs.PlainKinds.{plain_kind}

-- bits 63 to 54 are clear in what is no invalid entry
pub upper_clear : (w : ℕ) → kind_of w ≢ Invalid → w / 2 ^ 54 ≡ 0
unfolding kind_of
upper_clear w valid = elim (cases_eq (w / 2 ^ 54) 0) [
  | inl is ↦ is
  | inr ne ↦ absurd (valid (rw (ne_eqb (w / 2 ^ 54) 0 ne) refl))
]

pub leaf_clear : (w : ℕ) → kind_of w ≡ Leaf → w / 2 ^ 54 ≡ 0
leaf_clear w leaf = upper_clear w (λ other. let same : Leaf ≡ Invalid = sym leaf ∙ other in cc)

pub no_napot : (w : ℕ) → w / 2 ^ 54 ≡ 0 → has w 63 ≡ false
no_napot w clear = ne_eqb (w / 2 ^ 63 % 2) 1 (omega (arith, clear))

pub plain_type : (w : ℕ) → w / 2 ^ 54 ≡ 0 → memory_type w ≡ Some Pma
plain_type w clear = rw (eq-eqb (w / 2 ^ 61 % 4) 0 (omega (arith, clear))) refl

-- V is set in what is no invalid entry
no_v : (v : Bool) (other : Kind) → v ≡ false → (if not v then Invalid else other) ≡ Invalid
no_v v other clear = rw clear refl

pub valid_v : (w : ℕ) → kind_of w ≢ Invalid → has w 0 ≡ true
unfolding kind_of
valid_v w valid = elim (cases_Bool (has w 0)) [
  | inl set ↦ set
  | inr clear ↦ absurd (valid (rw (eq-eqb (w / 2 ^ 54) 0 (upper_clear w valid), clear) refl))
]

-- at level 0 no entry is a pointer
no_pointer_by : (a b c d e : Bool) → (if a then Invalid else (if b then (if c && d then Invalid else Leaf) else (if e || true then Invalid else Pointer))) ≡ Pointer → ⊥
no_pointer_by true b c d e is = cc
no_pointer_by false true true true e is = cc
no_pointer_by false true true false e is = cc
no_pointer_by false true false d e is = cc
no_pointer_by false false c d true is = cc
no_pointer_by false false c d false is = cc

pub no_low_pointer : (x : Extensions) (w : ℕ) → kind_in x 0 w ≡ Pointer → ⊥
no_low_pointer x w is =
    no_pointer_by (not (has w 0) || (has w 2 && not (has w 1)) || has_reserved x w) (has w 1 || has w 3) (has w 63) _ _ is

-- N without Svnapot is a reserved bit
one_set : (p q r : Bool) → (p || q || true || r) ≡ true
one_set true true r = refl
one_set true false r = refl
one_set false true r = refl
one_set false false r = refl

or_true : (b : Bool) → (b || true) ≡ true
or_true true = refl
or_true false = refl

-- the kind by tests: a, it is invalid; b, R or X; n, N; m and d, what else is tested; l, the level is 0
abbrev kind_by : Bool → Bool → Bool → Bool → Bool → Bool → Kind
kind_by a b n m d l = if a then Invalid else (if b then (if n && not (n && l && m) then Invalid else Leaf) else (if d || l then Invalid else Pointer))

same_leaf : (a b n m d l : Bool) → (n ≡ true → a ≡ true) → kind_by a b n m d l ≡ Leaf → (k : Bool) → kind_by a b n m d k ≡ Leaf
same_leaf true b n m d l set is k = absurd (let bad : Invalid ≡ Leaf = is in cc)
same_leaf false b true m d l set is k = absurd (false≢true (set refl))
same_leaf false true false m d l set is k = refl
same_leaf false false false m true l set is k = absurd (let bad : Invalid ≡ Leaf = is in cc)
same_leaf false false false m false true set is k = absurd (let bad : Invalid ≡ Leaf = is in cc)
same_leaf false false false m false false set is k = absurd (let bad : Pointer ≡ Leaf = is in cc)

module _ (x : Extensions) (napot : x.svnapot ≡ false) (none : x.svpbmt ≡ false) where
  reserved : (w : ℕ) → has w 63 ≡ true → has_reserved x w ≡ true
  reserved w set = rw (set, napot) (one_set (not (w / 2 ^ 64 == 0)) (not (w / 2 ^ 54 % 2 ^ 7 == 0)) (not (pbmt w == 0) && (not x.svpbmt || pbmt w == 3)))

  invalid : (w : ℕ) → has w 63 ≡ true → (not (has w 0) || (has w 2 && not (has w 1)) || has_reserved x w) ≡ true
  invalid w set = let all = reserved w set in rw all (or_true (not (has w 0) || (has w 2 && not (has w 1))))

  -- a leaf of level 0 is one of level 1, and the other way round
  low_leaf : (w : ℕ) → kind_in x 0 w ≡ Leaf → kind_in x 1 w ≡ Leaf
  low_leaf w is = same_leaf (not (has w 0) || (has w 2 && not (has w 1)) || has_reserved x w) (has w 1 || has w 3) (has w 63) (ppn w % 16 == 8) (reserved_in_pointer w) true (invalid w) is false

  leaf_low : (w : ℕ) → kind_in x 1 w ≡ Leaf → kind_in x 0 w ≡ Leaf
  leaf_low w is = same_leaf (not (has w 0) || (has w 2 && not (has w 1)) || has_reserved x w) (has w 1 || has w 3) (has w 63) (ppn w % 16 == 8) (reserved_in_pointer w) false (invalid w) is true

  pub leaf_of : (level w : ℕ) → kind_in x level w ≡ Leaf → kind_of w ≡ Leaf
  leaf_of zero w is = sym (plain_kind x 0 w napot none) ∙ low_leaf w is
  leaf_of (suc n) w is = sym (plain_kind x n w napot none) ∙ is

  pub of_leaf : (level w : ℕ) → kind_of w ≡ Leaf → kind_in x level w ≡ Leaf
  of_leaf zero w is = leaf_low w (plain_kind x 0 w napot none ∙ is)
  of_leaf (suc n) w is = plain_kind x n w napot none ∙ is

  pub pointer_of : (level w : ℕ) → kind_in x level w ≡ Pointer → kind_of w ≡ Pointer
  pointer_of zero w is = absurd (no_low_pointer x w is)
  pointer_of (suc n) w is = sym (plain_kind x n w napot none) ∙ is

  pub of_pointer : (n w : ℕ) → kind_of w ≡ Pointer → kind_in x (suc n) w ≡ Pointer
  of_pointer n w is = plain_kind x n w napot none ∙ is
