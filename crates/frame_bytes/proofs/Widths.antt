-- Lemmas about the widths of an access, 1, 2, 4 and 8: what holds of each of the four holds of every width (`by_width`);
-- an access at a multiple of its width lies in one word of eight bytes; a width is at most 8.
use Rattle.std.proofs.Common.{◌≡◌, ℕ, ◌+◌, ◌%◌, ◌≤◌, false, inl, inr, sym, subst, arith}
use Rattle.std.specs.Prelude.{IsTrue}
use Rattle.std.proofs.lemmas.Bool.Decides.{eqb_tells}
use Rattle.process_model.specs.Bytes.{is_width}

-- what is so of each of them is so of any
pub by_width : (P : ℕ → Type 0) → P 1 → P 2 → P 4 → P 8 → (w : ℕ) → IsTrue (is_width w) → P w
by_width P one two four eight w is = elim (eqb_tells w 1) [
  | inl t ↦ subst P (sym t.1) one
  | inr t ↦ elim (eqb_tells w 2) [
    | inl u ↦ subst P (sym u.1) two
    | inr u ↦ elim (eqb_tells w 4) [
      | inl x ↦ subst P (sym x.1) four
      | inr x ↦ elim (eqb_tells w 8) [
        | inl y ↦ subst P (sym y.1) eight
        | inr y ↦ absurd (let false_is : IsTrue false = rw (t.0, u.0, x.0, y.0) at is in cc)
      ]
    ]
  ]
]

-- an aligned access lies in one word
pub within_word : (o w : ℕ) → IsTrue (is_width w) → o % w ≡ 0 → o % 8 + w ≤ 8
within_word o w is aligned =
    by_width (λ w. o % w ≡ 0 → o % 8 + w ≤ 8) (λ e. omega arith) (λ e. omega arith) (λ e. omega arith) (λ e. omega arith) w is aligned

pub width_most : (w : ℕ) → IsTrue (is_width w) → w ≤ 8
width_most = by_width (λ w. w ≤ 8) (omega arith) (omega arith) (omega arith) (omega arith)
