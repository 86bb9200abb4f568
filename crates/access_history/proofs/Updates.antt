-- Lemmas of a hart's update of A and D: memory has the word afterwards, so a walk may have read it then; and a fence covers the leaf as before.
use Rattle.std.proofs.Common.{◌≡◌, ℕ, true, refl, sym, ◌∙◌, subst, inl, inr, List, ◌∷◌, Option, None, Some, ◌==◌, ◌&&◌}
use Rattle.std.proofs.lemmas.Bool.{and_from, and_parts, eq-eqb}
use Rattle.sv39_entry.specs.declared.entry.Kind.TheVariants.{Leaf}
use Rattle.walk_rules.specs.Kinds.{kind_in}
use Rattle.walk_rules.specs.declared.extensions.Extensions.{Extensions}
use Rattle.access_history.specs.Held.{HadWord, IsCovered, IsInSpace, IsUpdate, Read, is_with_ad, with_word}
use Rattle.access_history.specs.History.{First, memory_at}
use Rattle.access_history.specs.declared.event.Event.{Event}
use Rattle.access_history.specs.declared.event.Event.TheVariants.{Store, WriteSatp, WritePmp, Fence}
use Rattle.access_history.proofs.AdWords.{leaf_still, napot_still, with_ad_again}

module _ (x : Extensions) (f : First) (va : ℕ) (e : Event) (h : List Event) (r : Read) (w : ℕ) (is : IsUpdate x f va e h r w) where
  -- the word is that of the leaf, with A or D
  pub set_in : is_with_ad r.word w ≡ true
  set_in =
      let parts = and_parts (is_with_ad r.word is.was && is_with_ad is.was w) _ is.sets in
      let both = and_parts (is_with_ad r.word is.was) (is_with_ad is.was w) parts.0 in
      with_ad_again r.word is.was w both.0 both.1

  pub stored : memory_at f.memory (e ∷ h) r.table is.index ≡ Some w
  stored = subst (λ (d : Event). memory_at f.memory (d ∷ h) r.table is.index ≡ Some w) (sym is.stores)
      (rw (and_from (r.table == r.table) (is.index == is.index) (eq-eqb r.table r.table refl) (eq-eqb is.index is.index refl)) refl)

  pub leaf_now : kind_in x r.level w ≡ Leaf
  leaf_now = leaf_still r.word w set_in x r.level is.leaf

  pub had_update : HadWord x f va (e ∷ h) (with_word r w)
  had_update = elim is.place as (λ _. HadWord x f va (e ∷ h) (with_word r w)) [
    | inl own ↦ inl (subst (λ (i : ℕ). memory_at f.memory (e ∷ h) r.table i ≡ Some w) own stored)
    | inr group ↦
        let napot = napot_still r.word w set_in 0 ∙ group.2 in
        let leaf = subst (λ (n : ℕ). kind_in x n w ≡ Leaf) group.1 leaf_now in
        inr (group.0, group.1, napot, leaf, (is.index, group.3, stored))
  ]

-- a fence covers a leaf whatever its A and D
module _ (x : Extensions) (f : First) (va : ℕ) (r : Read) (w : ℕ) (set : is_with_ad r.word w ≡ true) (leaf : kind_in x r.level r.word ≡ Leaf) where
  space_still : (s : Option ℕ) → IsInSpace s r → IsInSpace s (with_word r w)
  space_still None own = own
  space_still (Some n) own = own

  space_before : (s : Option ℕ) → IsInSpace s (with_word r w) → IsInSpace s r
  space_before None own = own
  space_before (Some n) own = own

  pub covered_still : (d : Event) (k past since : List Event) → IsCovered x f va d k r past → IsCovered x f va d k (with_word r w) since
  covered_still (Store p i v) k past since covered = covered
  covered_still (WriteSatp v) k past since covered = covered
  covered_still (WritePmp n v) k past since covered = covered
  covered_still (Fence None s) k past since covered = (space_still s covered.0, covered.1)
  covered_still (Fence (Some a) s) k past since covered =
      (space_still s covered.0, (covered.1.0, covered.1.1, inl (leaf_still r.word w set x r.level leaf)))

  pub covered_before : (d : Event) (k past since : List Event) → IsCovered x f va d k (with_word r w) since → IsCovered x f va d k r past
  covered_before (Store p i v) k past since covered = covered
  covered_before (WriteSatp v) k past since covered = covered
  covered_before (WritePmp n v) k past since covered = covered
  covered_before (Fence None s) k past since covered = (space_before s covered.0, covered.1)
  covered_before (Fence (Some a) s) k past since covered =
      (space_before s covered.0, (covered.1.0, covered.1.1, inl leaf))
