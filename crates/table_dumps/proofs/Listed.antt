-- Lemmas about the list of the valid page table entries of a table and of those below it (`listed`): one index after another.
use Rattle.std.proofs.Common.{◌≡◌, ℕ, zero, suc, ◌+◌, ◌-◌, ◌*◌, ◌^◌, ◌<◌, ◌≤◌, refl, ap, sym, ◌∙◌, arith, Bool, true, false, Option, Some, List, [], ◌∷◌, ◌++◌, append_assoc, filter, get_or, length, take}
use Rattle.std.specs.Prelude.{◌&&◌, ◌||◌, not, if◌then◌else◌}
use Rattle.std.proofs.lemmas.List.{append-nil, length-append, take_more}
use Rattle.std.proofs.lemmas.List.Elements.{filter-append}
use Rattle.sv39_entry.specs.Address.{has}
use Rattle.sv39_entry.specs.Word.{ppn}
use Rattle.sv39_entry.specs.declared.entry.Kind.TheVariants.{Pointer, Leaf, Invalid}
use Rattle.walk_rules.specs.Kinds.{has_reserved, is_napot, kind_in, reserved_in_pointer}
use Rattle.walk_rules.specs.declared.extensions.Extensions.{Extensions}
use Rattle.access_history.specs.History.{Memory}
use Rattle.table_dumps.specs.Below.{by_kind, by_word, in_turn, listed, listed_at}
use Rattle.table_dumps.specs.declared.listing.ValidEntry.{ValidEntry}

module _ (f : ℕ → List ValidEntry) where
  pub none_yet : in_turn f 0 ≡ []
  unfolding in_turn
  none_yet = refl

  pub nothing_yet : (old : List ValidEntry) → old ≡ old ++ in_turn f 0
  nothing_yet old = rw (none_yet, append-nil)

  pub next_one : (i : ℕ) → in_turn f (suc i) ≡ in_turn f i ++ f i
  unfolding in_turn
  next_one i = refl

  one_more : (i : ℕ) → in_turn f (i + 1) ≡ in_turn f i ++ f i
  one_more i = let next : i + 1 ≡ suc i = omega arith in ap (in_turn f) next ∙ next_one i

  -- the entries of one more index are appended
  pub appended : (i : ℕ) (old now next : List ValidEntry) → now ≡ old ++ in_turn f i → next ≡ now ++ f i → next ≡ old ++ in_turn f (i + 1)
  appended i old now next so_far more = more ∙ ap (λ es. es ++ f i) so_far ∙ append_assoc old (in_turn f i) (f i) ∙ ap (λ es. old ++ es) (sym (one_more i))

  -- the lists of more indices are longer
  turn_grows : (i k : ℕ) → length (in_turn f i) ≤ length (in_turn f (i + k))
  turn_grows i zero = let none : i + 0 ≡ i = omega arith in rw none (omega arith)
  turn_grows i (suc k) =
      let so_far = turn_grows i k in
      let next : i + suc k ≡ suc (i + k) = omega arith in
      let more = length-append (in_turn f (i + k)) (f (i + k)) in
      rw (next, next_one) (omega (arith, so_far, more))

  -- if there are too many with those of an index, there are too many in the whole
  pub many_of_table : (i : ℕ) (old now : List ValidEntry) (most : ℕ) → i < 512 → now ≡ old ++ in_turn f i → most < length (now ++ f i) → most < length (old ++ in_turn f 512)
  many_of_table i old now most low so_far many =
      let rest : i + 1 + (511 - i) ≡ 512 = omega (arith, low) in
      let up = turn_grows (i + 1) (511 - i) in
      let all = appended i old now (now ++ f i) so_far refl in
      let here = length-append old (in_turn f (i + 1)) in
      let there = length-append old (in_turn f 512) in
      let whole : length (in_turn f (i + 1)) ≤ length (in_turn f 512) = rw rest at up in
      let same : length (now ++ f i) ≡ length (old ++ in_turn f (i + 1)) = ap length all in
      omega (arith, same, many, here, there, whole)

pub all_of_table : (x : Extensions) (m : Memory) (n first table : ℕ) → listed x m (suc n) first table ≡ in_turn (listed_at x m n first table) 512
unfolding listed
all_of_table x m n first table = refl

pub all_of_none : (x : Extensions) (m : Memory) (first table : ℕ) → listed x m 0 first table ≡ []
unfolding listed
all_of_none x m first table = refl

-- ---- by the word

-- only a PTE above level 0 is a pointer
not_pointer : (a b c d : Bool) → (if a then Invalid else (if b then (if c then Invalid else Leaf) else (if d || true then Invalid else Pointer))) ≡ Pointer → ⊥
not_pointer true b c d is = absurd cc
not_pointer false true true d is = absurd cc
not_pointer false true false d is = absurd cc
not_pointer false false c true is = absurd cc
not_pointer false false c false is = absurd cc

pub pointer_above : (x : Extensions) (level w : ℕ) → kind_in x level w ≡ Pointer → 1 ≤ level
pointer_above x zero w is =
    absurd (not_pointer (not (has w 0) || (has w 2 && not (has w 1)) || has_reserved x w) (has w 1 || has w 3) (has w 63 && not (is_napot 0 w)) (reserved_in_pointer w) is)
pointer_above x (suc level) w is = omega arith

module _ (x : Extensions) (below : ℕ → List ValidEntry) (level table index page : ℕ) where
  abbrev entry_of : ℕ → ValidEntry
  entry_of w = record { level = level; table = table; index = index; page = page; word = w }

  of_pointer : (o : Option ℕ) (w : ℕ) → o ≡ Some w → kind_in x level w ≡ Pointer → by_word x below level table index page o ≡ entry_of w ∷ below (ppn w)
  of_pointer o w is kind = ap (by_word x below level table index page) is ∙ ap (λ k. by_kind k (entry_of w) (below (ppn w))) kind

-- a pointer was appended, and the PTEs of its table
pub pointer_lists : (x : Extensions) (m : Memory) (level first table i page w number : ℕ) (old pushed : List ValidEntry)
    → pushed ≡ old ++ record { level = level; table = table; index = i; page = page; word = w } ∷ []
    → page ≡ first + i * 512 ^ level → m table i ≡ Some w → kind_in x level w ≡ Pointer → number ≡ ppn w
    → pushed ++ listed x m (suc (level - 1)) page number ≡ old ++ listed_at x m level first table i
pointer_lists x m level first table i page w number old pushed is at read kind names =
    let here = first + i * 512 ^ level in
    let above = pointer_above x level w kind in
    let same : suc (level - 1) ≡ level = omega (arith, above) in
    ap (λ es. es ++ listed x m (suc (level - 1)) page number) is
    ∙ append_assoc old (entry_of x (listed x m level here) level table i page w ∷ []) (listed x m (suc (level - 1)) page number)
    ∙ ap (λ n. old ++ entry_of x (listed x m level here) level table i page w ∷ listed x m n page number) same
    ∙ ap (λ n. old ++ entry_of x (listed x m level here) level table i page w ∷ listed x m level page n) names
    ∙ ap (λ p. old ++ entry_of x (listed x m level here) level table i p w ∷ listed x m level p (ppn w)) at
    ∙ ap (λ es. old ++ es) (sym (of_pointer x (listed x m level here) level table i here _ w read kind))

-- ---- one PTE of a list after another

-- what passes a test among one more
pub passed : {X : Type 0} (p : X → Bool) (xs : List X) (i : ℕ) (d : X) (old now : List X) → i < length xs → old ≡ filter p (take i xs)
    → now ≡ old ++ filter p (get_or xs i d ∷ []) → now ≡ filter p (take (i + 1) xs)
passed p xs i d old now low so_far more =
    more ∙ ap (λ ys. ys ++ filter p (get_or xs i d ∷ [])) so_far ∙ sym (filter-append p (take i xs) (get_or xs i d ∷ []))
    ∙ ap (filter p) (sym (take_more xs i d low))
