-- Lemmas: two lists of page table entries with the same elements, both in order, are one (`same_listing`, `same_mappings`).
use Rattle.std.proofs.Common.{◌≡◌, ◌⊎◌, inl, inr, ℕ, zero, suc, ◌+◌, ◌*◌, ◌/◌, ◌^◌, ◌<◌, ◌≤◌, refl, ap, sym, subst, ◌∙◌, arith, List, [], ◌∷◌, length, All, AllPairs, Contains, slice_index_or}
use Rattle.std.proofs.lemmas.List.Elements.{All-contains}
use Rattle.std.proofs.lemmas.Nat.{div-add-mod'}
use Rattle.walk_rules.specs.declared.extensions.Extensions.{Extensions}
use Rattle.access_history.specs.History.{Memory}
use Rattle.table_dumps.specs.Listings.{AreMappings, entry_read, IsBefore, IsListing, IsMapping, IsValidEntry, Reads}
use Rattle.table_dumps.specs.declared.listing.ValidEntry.{ValidEntry}
use Rattle.table_dumps.proofs.Found.{contains_tail, later, rest}
use Rattle.table_dumps.proofs.Pages.{power_some}

-- ---- lists in order with the same elements

module _ {X : Type 0} where
  contains_at : (x z : X) (xs : List X) (k : ℕ) → k < length (x ∷ xs) → slice_index_or (x ∷ xs) k z ≡ z → (x ≡ z) ⊎ Contains xs z
  contains_at x z xs zero low is = inl is
  contains_at x z xs (suc k) low is = inr (k, omega (arith, low), is)

  first_or_later : (x z : X) (xs : List X) → Contains (x ∷ xs) z → (x ≡ z) ⊎ Contains xs z
  first_or_later x z xs has = contains_at x z xs has.0 has.1 has.2

  contains_none : (z : X) → Contains [] z → ⊥
  contains_none z has = let low = has.1 in omega (arith, low)

module _ {X : Type 0} (R : X → X → Type 0) (one_way : (x y : X) → R x y → R y x → ⊥) where
  same_first : (x y : X) (xs ys : List X) → All (R x) xs → All (R y) ys → (x ≡ y) ⊎ Contains xs y → (y ≡ x) ⊎ Contains ys x → x ≡ y
  same_first x y xs ys p q (inl same) second = same
  same_first x y xs ys p q (inr there) (inl same) = sym same
  same_first x y xs ys p q (inr there) (inr here) = absurd (one_way x y (All-contains (R x) xs y p there) (All-contains (R y) ys x q here))

  -- what comes after the first is among the others of the other list
  others : (x y z : X) (xs ys : List X) → x ≡ y → All (R x) xs → Contains xs z → (y ≡ z) ⊎ Contains ys z → Contains ys z
  others x y z xs ys same p here (inl is) =
      let after : R x z = All-contains (R x) xs z p here in
      let back : z ≡ x = sym (same ∙ is) in
      absurd (one_way x x (subst (R x) back after) (subst (R x) back after))
  others x y z xs ys same p here (inr there) = there

  same_list : (xs ys : List X) → AllPairs R xs → AllPairs R ys → ((z : X) → Contains xs z → Contains ys z) → ((z : X) → Contains ys z → Contains xs z) → xs ≡ ys
  same_list [] [] p q into back = refl
  same_list [] (y ∷ ys) p q into back = absurd (contains_none y (back y (0, omega arith, refl)))
  same_list (x ∷ xs) [] p q into back = absurd (contains_none x (into x (0, omega arith, refl)))
  same_list (x ∷ xs) (y ∷ ys) p q into back =
      let after_x = later R x xs p in
      let after_y = later R y ys q in
      let first : x ≡ y = same_first x y xs ys after_x after_y (first_or_later x y xs (back y (0, omega arith, refl))) (first_or_later y x ys (into x (0, omega arith, refl))) in
      let tail : xs ≡ ys = same_list xs ys (rest R x xs p) (rest R y ys q)
      (λ z here. others x y z xs ys first after_x here (first_or_later y z ys (into z (contains_tail x z xs here))))
      (λ z here. others y x z ys xs (sym first) after_y here (first_or_later x z xs (back z (contains_tail y z ys here)))) in
      λ j. first j ∷ tail j

-- ---- listings

one_way : (d e : ValidEntry) → IsBefore d e → IsBefore e d → ⊥
one_way d e (inl less) (inl more) = omega (arith, less, more)
one_way d e (inl less) (inr same) = omega (arith, less, same.0)
one_way d e (inr same) (inl more) = omega (arith, same.0, more)
one_way d e (inr same) (inr more) = omega (arith, same.1, more.1)

abbrev IsApart : ValidEntry → ValidEntry → Type 0
IsApart d e = d.page + 512 ^ d.level ≤ e.page

one_apart : (d e : ValidEntry) → IsApart d e → IsApart e d → ⊥
one_apart d e first second = let some = power_some d.level in let more = power_some e.level in omega (arith, some, more, first, second)

module _ (x : Extensions) (m : Memory) (root top : ℕ) where
  abbrev reads_itself : (d : ValidEntry) → IsValidEntry x m root top d → Reads x m root top d.page d.level d.word
  reads_itself d is = record { low = is.low; table = d.table; way = is.way; read = ap (m d.table) (sym is.index) ∙ is.read }

  valid_itself : (d : ValidEntry) → IsValidEntry x m root top d → entry_read d.page d.level d.table d.word ≡ d
  valid_itself d is =
      let page : d.page / 512 ^ d.level * 512 ^ d.level ≡ d.page = (let whole = div-add-mod' d.page (512 ^ d.level) in let even = is.first in omega (arith, whole, even)) in
      λ j. record { level = d.level; table = d.table; index = sym is.index j; page = page j; word = d.word }

  has_each : (ds es : List ValidEntry) → IsListing x m root top ds → IsListing x m root top es → (d : ValidEntry) → Contains ds d → Contains es d
  has_each ds es first second d here =
      let valid = All-contains (IsValidEntry x m root top) ds d first.each here in
      subst (Contains es) (valid_itself d valid) (second.all d.page d.level d.word valid.within (reads_itself d valid) valid.valid)

  pub same_listing : (ds es : List ValidEntry) → IsListing x m root top ds → IsListing x m root top es → ds ≡ es
  same_listing ds es first second = same_list IsBefore one_way ds es first.order second.order (has_each ds es first second) (has_each es ds second first)

  mapping_itself : (d : ValidEntry) (is : IsMapping x m root top d) → entry_read d.page d.level is.leaf.reads.table d.word ≡ d
  mapping_itself d is =
      let page : d.page / 512 ^ d.level * 512 ^ d.level ≡ d.page = (let whole = div-add-mod' d.page (512 ^ d.level) in let even = is.first in omega (arith, whole, even)) in
      λ j. record { level = d.level; table = sym is.table j; index = sym is.index j; page = page j; word = d.word }

  maps_each : (ds es : List ValidEntry) → AreMappings x m root top ds → AreMappings x m root top es → (d : ValidEntry) → Contains ds d → Contains es d
  maps_each ds es first second d here =
      let is = All-contains (IsMapping x m root top) ds d first.each here in
      subst (Contains es) (mapping_itself d is) (second.all d.page d.level d.word is.within is.leaf)

  pub same_mappings : (ds es : List ValidEntry) → AreMappings x m root top ds → AreMappings x m root top es → ds ≡ es
  same_mappings ds es first second = same_list IsApart one_apart ds es first.order second.order (maps_each ds es first second) (maps_each es ds second first)
