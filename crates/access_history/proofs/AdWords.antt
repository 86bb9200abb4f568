-- Lemmas of a word in which A, or A and D are set: it is a leaf as before, and as global as it was; and setting them twice is setting them once.
use Rattle.std.proofs.Common.{◌≡◌, ℕ, ◌/◌, ◌%◌, ◌^◌, ◌==◌, ◌&&◌, ◌||◌, Bool, true, false, not, bit_or, refl, sym, ◌∙◌, ap, ap₂, inl, inr, subst, arith}
use Rattle.std.proofs.lemmas.Bool.{cases_Bool, eq-eqb, eqb-true, or_cases, or_left, or_right}
use Rattle.std.proofs.lemmas.Nat.{or_shr}
use Rattle.std.proofs.lemmas.Nat.Bits.{bit_at_or, same_from_bits}
use Rattle.sv39_entry.specs.Address.{has}
use Rattle.sv39_entry.specs.Word.{ppn}
use Rattle.sv39_entry.specs.declared.access.Access.TheVariants as access
use Rattle.sv39_entry.specs.declared.entry.Kind.TheVariants.{Leaf}
use Rattle.walk_rules.specs.Kinds.{has_reserved, is_napot, kind_in, pbmt, pointer_kind, reserved_in_pointer}
use Rattle.walk_rules.specs.Rights.{with_ad}
use Rattle.walk_rules.specs.declared.extensions.Extensions.{Extensions}
use Rattle.walk_rules.proofs.AdBits.{has_with_ad}
use Rattle.access_history.specs.Held.{has_global, is_with_ad}

-- a word is another one, or that with A, or with A and D set
data IsSetIn (w : ℕ) : ℕ → Type 0 where
  unset : IsSetIn w w
  one : IsSetIn w (with_ad access.Load w)
  both : IsSetIn w (with_ad access.Store w)

cases : (w v : ℕ) → is_with_ad w v ≡ true → IsSetIn w v
cases w v is = elim (or_cases (v == w || v == with_ad access.Load w) (v == with_ad access.Store w) is) [
  | inr store ↦ subst (IsSetIn w) (sym (eqb-true v (with_ad access.Store w) store)) both
  | inl less ↦ elim (or_cases (v == w) (v == with_ad access.Load w) less) [
    | inl same ↦ subst (IsSetIn w) (sym (eqb-true v w same)) unset
    | inr load ↦ subst (IsSetIn w) (sym (eqb-true v (with_ad access.Load w) load)) one
  ]
]

from : (w v : ℕ) → IsSetIn w v → is_with_ad w v ≡ true
from w v unset = or_left (w == w || w == with_ad access.Load w) (w == with_ad access.Store w) (or_left (w == w) (w == with_ad access.Load w) (eq-eqb w w refl))
from w v one =
    let v = with_ad access.Load w in
    or_left (v == w || v == v) (v == with_ad access.Store w) (or_right (v == w) (v == v) (eq-eqb v v refl))
from w v both =
    let v = with_ad access.Store w in
    or_right (v == w || v == with_ad access.Load w) (v == v) (eq-eqb v v refl)

-- ---- twice is once

or_again : (w m : ℕ) → bit_or (bit_or w m) m ≡ bit_or w m
or_again w m = same_from_bits _ _ (λ i. let twice = bit_at_or (bit_or w m) m i in let once = bit_at_or w m i in omega (arith, twice, once))

or_swap : (w m n : ℕ) → bit_or (bit_or w m) n ≡ bit_or (bit_or w n) m
or_swap w m n = same_from_bits _ _ (λ i.
    let first = bit_at_or (bit_or w m) n i in let one = bit_at_or w m i in
    let second = bit_at_or (bit_or w n) m i in let two = bit_at_or w n i in
    omega (arith, first, one, second, two))

again : (u v w : ℕ) → IsSetIn u v → IsSetIn v w → IsSetIn u w
again u v w unset second = second
again u v w first unset = first
again u v w one one = subst (IsSetIn u) (sym (or_again u (2 ^ 6))) one
again u v w one both = subst (IsSetIn u) (sym (ap (λ (n : ℕ). bit_or n (2 ^ 7)) (or_again u (2 ^ 6)))) both
again u v w both one =
    let same : bit_or (bit_or (bit_or u (2 ^ 6)) (2 ^ 7)) (2 ^ 6) ≡ bit_or (bit_or u (2 ^ 6)) (2 ^ 7) =
    or_swap (bit_or u (2 ^ 6)) (2 ^ 7) (2 ^ 6) ∙ ap (λ (n : ℕ). bit_or n (2 ^ 7)) (or_again u (2 ^ 6)) in
    subst (IsSetIn u) (sym same) both
again u v w both both =
    let same : bit_or (bit_or (bit_or u (2 ^ 6)) (2 ^ 7)) (2 ^ 6) ≡ bit_or (bit_or u (2 ^ 6)) (2 ^ 7) =
    or_swap (bit_or u (2 ^ 6)) (2 ^ 7) (2 ^ 6) ∙ ap (λ (n : ℕ). bit_or n (2 ^ 7)) (or_again u (2 ^ 6)) in
    let more = ap (λ (n : ℕ). bit_or n (2 ^ 7)) same ∙ or_again (bit_or u (2 ^ 6)) (2 ^ 7) in
    subst (IsSetIn u) (sym more) both

pub with_ad_again : (u v w : ℕ) → is_with_ad u v ≡ true → is_with_ad v w ≡ true → is_with_ad u w ≡ true
with_ad_again u v w first second = from u w (again u v w (cases u v first) (cases v w second))

-- ---- what stays

-- the bits but A and D
record IsSame (w v : ℕ) : Type 0 where
  high : v / 2 ^ 8 ≡ w / 2 ^ 8
  v0 : has v 0 ≡ has w 0
  v1 : has v 1 ≡ has w 1
  v2 : has v 2 ≡ has w 2
  v3 : has v 3 ≡ has w 3
  v5 : has v 5 ≡ has w 5

or_nothing : (b : Bool) → (b || false) ≡ b
or_nothing true = refl
or_nothing false = refl

high_a : (w : ℕ) → bit_or w (2 ^ 6) / 2 ^ 8 ≡ w / 2 ^ 8
high_a w = or_shr w (2 ^ 6) 8 ∙ or_zero (w / 2 ^ 8)
  where
    or_zero : (n : ℕ) → bit_or n 0 ≡ n
    or_zero n = same_from_bits _ _ (λ i. let bit = bit_at_or n 0 i in omega (arith, bit))

high_d : (w : ℕ) → bit_or w (2 ^ 7) / 2 ^ 8 ≡ w / 2 ^ 8
high_d w = or_shr w (2 ^ 7) 8 ∙ or_zero (w / 2 ^ 8)
  where
    or_zero : (n : ℕ) → bit_or n 0 ≡ n
    or_zero n = same_from_bits _ _ (λ i. let bit = bit_at_or n 0 i in omega (arith, bit))

same : (w v : ℕ) → IsSetIn w v → IsSame w v
same w v unset = record { high = refl; v0 = refl; v1 = refl; v2 = refl; v3 = refl; v5 = refl }
same w v one = record {
  high = high_a w;
  v0 = has_with_ad access.Load w 0 ∙ or_nothing (has w 0);
  v1 = has_with_ad access.Load w 1 ∙ or_nothing (has w 1);
  v2 = has_with_ad access.Load w 2 ∙ or_nothing (has w 2);
  v3 = has_with_ad access.Load w 3 ∙ or_nothing (has w 3);
  v5 = has_with_ad access.Load w 5 ∙ or_nothing (has w 5);
}
same w v both = record {
  high = high_d (bit_or w (2 ^ 6)) ∙ high_a w;
  v0 = has_with_ad access.Store w 0 ∙ or_nothing (has w 0);
  v1 = has_with_ad access.Store w 1 ∙ or_nothing (has w 1);
  v2 = has_with_ad access.Store w 2 ∙ or_nothing (has w 2);
  v3 = has_with_ad access.Store w 3 ∙ or_nothing (has w 3);
  v5 = has_with_ad access.Store w 5 ∙ or_nothing (has w 5);
}

module _ (w v : ℕ) (set : is_with_ad w v ≡ true) where
  abbrev bits : IsSame w v
  bits = same w v (cases w v set)

  same_pbmt : pbmt v ≡ pbmt w
  same_pbmt = let high = bits.high in omega (arith, high)

  same_ppn : ppn v ≡ ppn w
  same_ppn = let high = bits.high in omega (arith, high)

  same_n : has v 63 ≡ has w 63
  same_n = let high = bits.high in let up : v / 2 ^ 63 ≡ w / 2 ^ 63 = omega (arith, high) in ap (λ (n : ℕ). n % 2 == 1) up

  same_reserved : (x : Extensions) → has_reserved x v ≡ has_reserved x w
  same_reserved x =
      let high = bits.high in
      let over : v / 2 ^ 64 ≡ w / 2 ^ 64 = omega (arith, high) in
      let middle : v / 2 ^ 54 % 2 ^ 7 ≡ w / 2 ^ 54 % 2 ^ 7 = omega (arith, high) in
      rw (over, middle, same_n, same_pbmt) refl

  pub napot_still : (level : ℕ) → is_napot level v ≡ is_napot level w
  napot_still level = rw (same_n, same_ppn) refl

  pub global_still : has_global v ≡ has_global w
  global_still = ap₂ (λ (b c : Bool). b && c) bits.v0 bits.v5

  no_leaf_pointer : (level : ℕ) → pointer_kind level w ≡ Leaf → ⊥
  no_leaf_pointer level is = elim (cases_Bool (reserved_in_pointer w || level == 0)) [
    | inl reserved ↦ let bad = rw reserved at is in cc
    | inr pointer ↦ let bad = rw pointer at is in cc
  ]

  pub leaf_still : (x : Extensions) (level : ℕ) → kind_in x level w ≡ Leaf → kind_in x level v ≡ Leaf
  leaf_still x level leaf = elim (cases_Bool (has w 1 || has w 3)) [
    | inl some ↦
        rw (bits.v0, bits.v1, bits.v2, bits.v3, same_reserved x, same_n, same_ppn, some) (rw some at leaf)
    | inr none ↦ absurd (no_leaf none)
  ] where
    no_leaf : (has w 1 || has w 3) ≡ false → ⊥
    no_leaf none = elim (cases_Bool (not (has w 0) || (has w 2 && not (has w 1)) || has_reserved x w)) [
      | inl bad ↦ let is = rw bad at leaf in cc
      | inr good ↦ no_leaf_pointer level (rw (good, none) at leaf)
    ]
