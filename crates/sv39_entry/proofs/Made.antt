-- Lemmas: the page table entries that the kernel writes have the fields they were made with: a leaf its frame, and its flags
-- as `IsLeafOf` says, a pointer the frame of its table (`IsPointerTo`).
use Rattle.std.proofs.Common.{◌≡◌, ℕ, Bool, true, false, not, ◌&&◌, ◌+◌, ◌*◌, ◌/◌, ◌^◌, ◌<◌, ◌==◌, refl, ap, sym, ◌∙◌, arith}
use Rattle.std.specs.Prelude.{nat_lt, if◌then◌else◌}
use Rattle.std.proofs.lemmas.Bool.{eq-eqb, and_parts}
use Rattle.std.proofs.lemmas.Nat.Bits.{bit_at_cat_low}
use Rattle.sv39_entry.specs.Address.{has}
use Rattle.sv39_entry.specs.Frame.{ppn_of}
use Rattle.sv39_entry.specs.Rights.{reads, writes, executes}
use Rattle.sv39_entry.specs.Word.{flags_kind, kind_of, leaf_flags, leaf_word, pointer_word, IsLeafOf, IsPointerTo}
use Rattle.sv39_entry.specs.declared.entry.Kind.{Kind}
use Rattle.sv39_entry.specs.declared.entry.Kind.TheVariants.{Invalid, Pointer, Leaf}

-- a test of six truth values that holds at all of them, by computation

abbrev both : (Bool → Bool) → Bool
both p = p true && p false

abbrev Test : Type 0
Test = Bool → Bool → Bool → Bool → Bool → Bool → Bool

abbrev at_all : Test → Bool
at_all p = both (λ a. both (λ b. both (λ c. both (λ d. both (λ e. both (λ g. p a b c d e g))))))

either : (p : Bool → Bool) → both p ≡ true → (a : Bool) → p a ≡ true
either p h true = (and_parts (p true) (p false) h).0
either p h false = (and_parts (p true) (p false) h).1

always : (p : Test) → at_all p ≡ true → (a b c d e g : Bool) → p a b c d e g ≡ true
always p h a b c d e g =
    let first = either (λ a. both (λ b. both (λ c. both (λ d. both (λ e. both (λ g. p a b c d e g)))))) h a in
    let second = either (λ b. both (λ c. both (λ d. both (λ e. both (λ g. p a b c d e g))))) first b in
    let third = either (λ c. both (λ d. both (λ e. both (λ g. p a b c d e g)))) second c in
    let fourth = either (λ d. both (λ e. both (λ g. p a b c d e g))) third d in
    let fifth = either (λ e. both (λ g. p a b c d e g)) fourth e in
    either (λ g. p a b c d e g) fifth g

abbrev same : Bool → Bool → Bool
same a b = if a then b else not b

same-true : (a b : Bool) → same a b ≡ true → a ≡ b
same-true true true h = refl
same-true true false h = sym h
same-true false true h = h
same-true false false h = refl

alike : (p q : Test) → at_all (λ a b c d e g. same (p a b c d e g) (q a b c d e g)) ≡ true → (a b c d e g : Bool) → p a b c d e g ≡ q a b c d e g
alike p q h a b c d e g = same-true (p a b c d e g) (q a b c d e g) (always (λ a b c d e g. same (p a b c d e g) (q a b c d e g)) h a b c d e g)

-- the flags of a leaf, by reading, writing, execution, user, copy-on-write and dirty

abbrev flag : ℕ → Test
flag i r w x u c d = has (leaf_flags r w x u c d) i

below : (a b : ℕ) → nat_lt a b ≡ true → a < b
below a b e = grind arith

flags_small : (r w x u c d : Bool) → leaf_flags r w x u c d < 2 ^ 10
flags_small r w x u c d = below (leaf_flags r w x u c d) (2 ^ 10) (always (λ r w x u c d. nat_lt (leaf_flags r w x u c d) (2 ^ 10)) refl r w x u c d)

abbrev is_leaf : Kind → Bool
is_leaf Leaf = true
is_leaf _ = false

leaf_from : (k : Kind) → is_leaf k ≡ true → k ≡ Leaf
leaf_from Leaf h = refl
leaf_from Invalid h = absurd cc
leaf_from Pointer h = absurd cc

readable : (r w x u c d : Bool) → r ≡ true → flags_kind (leaf_flags r w x u c d) ≡ Leaf
readable r w x u c d e =
    rw e (leaf_from (flags_kind (leaf_flags true w x u c d)) (always (λ r w x u c d. is_leaf (flags_kind (leaf_flags true w x u c d))) refl r w x u c d))

executable : (r w x u c d : Bool) → x ≡ true → w ≡ false → flags_kind (leaf_flags r w x u c d) ≡ Leaf
executable r w x u c d e none =
    rw (e, none) (leaf_from (flags_kind (leaf_flags r false true u c d)) (always (λ r w x u c d. is_leaf (flags_kind (leaf_flags r false true u c d))) refl r w x u c d))

-- the low ten bits of a word stand beside the frame

low : (f s i : ℕ) → i < 10 → has (f * 2 ^ 10 + s) i ≡ has s i
low f s i h = ap (λ (b : ℕ). b == 1) (bit_at_cat_low f 10 s i h)

kind_split : (f s : ℕ) → f < 2 ^ 44 → s < 2 ^ 10 → kind_of (f * 2 ^ 10 + s) ≡ flags_kind s
unfolding kind_of
kind_split f s h small =
    rw (eq-eqb ((f * 2 ^ 10 + s) / 2 ^ 54) 0 (omega arith))
    (simp (low f s 0 (omega arith), low f s 1 (omega arith), low f s 2 (omega arith), low f s 3 (omega arith), low f s 4 (omega arith), low f s 6 (omega arith), low f s 7 (omega arith)))

pub leaf_read : (frame rights : ℕ) (u c d : Bool) → frame < 2 ^ 16 → IsLeafOf (leaf_word frame rights u c d) frame rights u c d
leaf_read frame rights u c d lt =
    let r = reads rights in
    let w = writes rights in
    let x = executes rights in
    let f = ppn_of frame in
    let s = leaf_flags r w x u c d in
    let small = flags_small r w x u c d in
    record {
      names = omega (arith, small);
      valid = low f s 0 (omega arith) ∙ alike (flag 0) (λ r w x u c d. true) refl r w x u c d;
      read = low f s 1 (omega arith) ∙ alike (flag 1) (λ r w x u c d. r) refl r w x u c d;
      write = low f s 2 (omega arith) ∙ alike (flag 2) (λ r w x u c d. w && not c) refl r w x u c d;
      execute = low f s 3 (omega arith) ∙ alike (flag 3) (λ r w x u c d. x) refl r w x u c d;
      for_user = low f s 4 (omega arith) ∙ alike (flag 4) (λ r w x u c d. u) refl r w x u c d;
      global = low f s 5 (omega arith) ∙ alike (flag 5) (λ r w x u c d. false) refl r w x u c d;
      accessed = low f s 6 (omega arith) ∙ alike (flag 6) (λ r w x u c d. true) refl r w x u c d;
      modified = low f s 7 (omega arith) ∙ alike (flag 7) (λ r w x u c d. d && w) refl r w x u c d;
      cow = low f s 8 (omega arith) ∙ alike (flag 8) (λ r w x u c d. c) refl r w x u c d;
      unused = low f s 9 (omega arith) ∙ alike (flag 9) (λ r w x u c d. false) refl r w x u c d;
      readable = λ e. kind_split f s (omega arith) small ∙ readable r w x u c d e;
      executable = λ e none. kind_split f s (omega arith) small ∙ executable r w x u c d e none;
    }

pub pointer_read : (frame : ℕ) → frame < 2 ^ 16 → IsPointerTo (pointer_word frame) frame
pointer_read frame lt = record {
  names = omega arith;
  kind = kind_split (ppn_of frame) 1 (omega arith) (omega arith);
}
