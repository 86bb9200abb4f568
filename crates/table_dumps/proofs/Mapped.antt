-- Lemmas: the leaves of a listing are the mappings (`are_mappings`).
use Rattle.std.proofs.Common.{◌≡◌, ◌⊎◌, inl, inr, ℕ, zero, suc, ◌<◌, refl, ap, sym, subst, ◌∙◌, arith, Bool, true, false, List, [], ◌∷◌, length, All, AllPairs, Contains, filter, slice_index_or}
use Rattle.std.proofs.lemmas.List.Elements.{All-filter, filter_passes}
use Rattle.std.proofs.lemmas.List.Kept.{AllPairs-filter}
use Rattle.sv39_entry.specs.declared.entry.Kind.{Kind}
use Rattle.sv39_entry.specs.declared.entry.Kind.TheVariants.{Invalid, Leaf, Pointer}
use Rattle.walk_rules.specs.Kinds.{kind_in}
use Rattle.walk_rules.specs.declared.extensions.Extensions.{Extensions}
use Rattle.access_history.specs.History.{Memory}
use Rattle.table_dumps.specs.Below.{listed}
use Rattle.table_dumps.specs.Leaves.{is_leaf, is_leaf_kind}
use Rattle.table_dumps.specs.Listings.{AreMappings, entry_read, IsMapping, IsValidEntry}
use Rattle.table_dumps.specs.declared.listing.ValidEntry.{ValidEntry}
use Rattle.table_dumps.proofs.Found.{contains_head, contains_tail, has_all, IsApart}

-- ---- elements of a list that pass a test

module _ {X : Type 0} (p : X → Bool) (z : X) (ok : p z ≡ true) where
  contains_at : (y : X) (ys : List X) (k : ℕ) → k < length (y ∷ ys) → slice_index_or (y ∷ ys) k z ≡ z → (y ≡ z) ⊎ Contains ys z
  contains_at y ys zero low is = inl is
  contains_at y ys (suc k) low is = inr (k, omega (arith, low), is)

  kept : (y : X) (ys : List X) (b : Bool) → p y ≡ b → (y ≡ z) ⊎ Contains (filter p ys) z → Contains (filter p (y ∷ ys)) z
  kept y ys true is (inl same) = rw is (subst (λ w. Contains (w ∷ filter p ys) z) (sym same) (contains_head z (filter p ys)))
  kept y ys true is (inr later) = rw is (contains_tail y z (filter p ys) later)
  kept y ys false is (inl same) = (let other : false ≡ true = sym is ∙ ap p same ∙ ok in absurd cc)
  kept y ys false is (inr later) = rw is later

  kept_if : (y : X) (ys : List X) → (Contains ys z → Contains (filter p ys) z) → (y ≡ z) ⊎ Contains ys z → Contains (filter p (y ∷ ys)) z
  kept_if y ys more (inl same) = kept y ys (p y) refl (inl same)
  kept_if y ys more (inr later) = kept y ys (p y) refl (inr (more later))

  pub contains_filter : (ys : List X) → Contains ys z → Contains (filter p ys) z
  contains_filter [] has = (let low = has.1 in absurd (omega (arith, low)))
  contains_filter (y ∷ ys) has = kept_if y ys (λ later. contains_filter ys later) (contains_at y ys has.0 has.1 has.2)

-- ---- mappings

leaf_is : (k : Kind) → is_leaf_kind k ≡ true → k ≡ Leaf
leaf_is Invalid is = absurd cc
leaf_is Leaf is = refl
leaf_is Pointer is = absurd cc

module _ (x : Extensions) (m : Memory) (root top : ℕ) where
  mapping_of : (e : ValidEntry) → IsValidEntry x m root top e → kind_in x e.level e.word ≡ Leaf → IsMapping x m root top e
  mapping_of e is kind = record {
    leaf = record {
      reads = record { low = is.low; table = e.table; way = is.way; read = ap (m e.table) (sym is.index) ∙ is.read };
      kind = kind;
    };
    table = refl;
    index = is.index;
    first = is.first;
    within = is.within;
  }

  pub are_mappings : AreMappings x m root top (filter (is_leaf x) (listed x m (suc top) 0 root))
  are_mappings =
      let has = has_all x m root top in
      let es = listed x m (suc top) 0 root in
      let leaves = filter (is_leaf x) es in
      let passes : All (λ (e : ValidEntry). is_leaf x e ≡ true) leaves = filter_passes (is_leaf x) es in
      let valid : All (IsValidEntry x m root top) leaves = All-filter (is_leaf x) (IsValidEntry x m root top) es has.each in
      let apart : AllPairs (IsApart x) leaves = AllPairs-filter (IsApart x) (is_leaf x) es has.apart in
      record {
        each = λ k d low. mapping_of _ (valid k d low) (leaf_is _ (passes k d low));
        all = λ page level leaf low c.
            let deep = c.reads.low in
            contains_filter (is_leaf x) (entry_read page level c.reads.table leaf) (ap is_leaf_kind c.kind) es
            (has.all page level leaf (omega arith) (omega (arith, low)) (omega (arith, deep)) c.reads (λ invalid. (let other : Leaf ≡ Invalid = sym c.kind ∙ invalid in absurd cc)));
        order = λ i j d less low. apart i j d less low (leaf_is _ (passes i d (omega (arith, less, low))));
      }
