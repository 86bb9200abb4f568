-- Lemmas about the list of the entries of a table and of those below it (`listed`): what a word adds, by its kind, one index
-- after another; and that the tables below may be read (`CanList`).
use Rattle.std.proofs.Common.{◌≡◌, ℕ, zero, suc, ◌+◌, ◌*◌, ◌^◌, ◌<◌, refl, ap, sym, subst, ◌∙◌, arith, Option, Some, List, [], ◌∷◌, ◌++◌, append_assoc}
use Rattle.std.proofs.lemmas.List.{append-nil}
use Rattle.sv39_entry.specs.Word.{kind_of, ppn}
use Rattle.sv39_entry.specs.declared.entry.Kind.TheVariants.{Pointer}
use Rattle.table_walk.specs.Memory.{Memory}
use Rattle.walk_lines.specs.Below.{CanList, by_kind, by_word, in_turn, listed, listed_at}
use Rattle.walk_lines.specs.declared.listing.TableEntry.{TableEntry}

-- ---- what may be read

pub readable_here : (R : ℕ → Type 0) (m : Memory) (n table : ℕ) → CanList R m (suc n) table → R table
unfolding CanList
readable_here R m n table can = can.0

pub readable_below : (R : ℕ → Type 0) (m : Memory) (n table i w : ℕ) → CanList R m (suc n) table → i < 512 → m table i ≡ Some w → kind_of w ≡ Pointer → CanList R m n (ppn w)
unfolding CanList
readable_below R m n table i w can low read kind = can.1 i w low read kind

pub readable_still : (R Q : ℕ → Type 0) (m k : Memory) → ((p : ℕ) → R p → Q p) → k ≡ m → (n table : ℕ) → CanList R m n table → CanList Q k n table
unfolding CanList
readable_still R Q m k more same zero table can = tt
readable_still R Q m k more same (suc n) table can = (more table can.0, λ i w low read kind. readable_still R Q m k more same n (ppn w) (can.1 i w low (ap (λ (x : Memory). x table i) (sym same) ∙ read) kind))

-- ---- one index after another

module _ (f : ℕ → List TableEntry) where
  pub none_yet : in_turn f 0 ≡ []
  unfolding in_turn
  none_yet = refl

  pub nothing_yet : (old : List TableEntry) → old ≡ old ++ in_turn f 0
  nothing_yet old = rw (none_yet, append-nil)

  pub next_one : (i : ℕ) → in_turn f (suc i) ≡ in_turn f i ++ f i
  unfolding in_turn
  next_one i = refl

  one_more : (i : ℕ) → in_turn f (i + 1) ≡ in_turn f i ++ f i
  one_more i = let next : i + 1 ≡ suc i = omega arith in ap (in_turn f) next ∙ next_one i

  -- the entries of one more index are appended
  pub appended : (i : ℕ) (old now next : List TableEntry) → now ≡ old ++ in_turn f i → next ≡ now ++ f i → next ≡ old ++ in_turn f (i + 1)
  appended i old now next so_far more = more ∙ ap (λ es. es ++ f i) so_far ∙ append_assoc old (in_turn f i) (f i) ∙ ap (λ es. old ++ es) (sym (one_more i))

pub all_of_table : (m : Memory) (n first table : ℕ) → listed m (suc n) first table ≡ in_turn (listed_at m n first table) 512
unfolding listed
all_of_table m n first table = refl

pub all_of_none : (m : Memory) (first table : ℕ) → listed m 0 first table ≡ []
unfolding listed
all_of_none m first table = refl

-- ---- by the word

module _ (below : ℕ → List TableEntry) (level table index page : ℕ) where
  abbrev entry_of : ℕ → TableEntry
  entry_of w = record { level = level; table = table; index = index; page = page; word = w }

  of_pointer : (o : Option ℕ) (w : ℕ) → o ≡ Some w → kind_of w ≡ Pointer → by_word below level table index page o ≡ entry_of w ∷ below (ppn w)
  of_pointer o w is kind = ap (by_word below level table index page) is ∙ ap (λ k. by_kind k (entry_of w) (below (ppn w))) kind

-- a pointer in a last table leads to nothing: it alone is appended
pub pointer_alone : (m : Memory) (level first table i page w : ℕ) (old now : List TableEntry) → now ≡ old ++ record { level = level; table = table; index = i; page = page; word = w } ∷ []
    → page ≡ first + i * 512 ^ level → m table i ≡ Some w → kind_of w ≡ Pointer → level ≡ 0 → now ≡ old ++ listed_at m level first table i
pointer_alone m level first table i page w old now alone is read kind zero_level =
    let here = first + i * 512 ^ level in
    let none : listed m level here (ppn w) ≡ [] = subst (λ (n : ℕ). listed m n here (ppn w) ≡ []) (sym zero_level) (all_of_none m here (ppn w)) in
    alone ∙ ap (λ p. old ++ entry_of (listed m level here) level table i p w ∷ []) is ∙ ap (λ es. old ++ entry_of (listed m level here) level table i here w ∷ es) (sym none)
    ∙ ap (λ es. old ++ es) (sym (of_pointer (listed m level here) level table i here _ w read kind))
