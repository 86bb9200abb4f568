-- Laws of `joined`, the view (what a seat holds and knows) of a seat after another has joined it, and of `union`, of two
-- maps of known words: the joined hold of each frame; the word at each index, from the first map if it has one, else from
-- the second. And lookups in a map that is made from a list of keys.
use Rattle.std.proofs.Common.{◌≡◌, ℕ, cond, refl, ap, sym, ◌∙◌, Option, None, Some, inl, inr, List, [], ◌∷◌, ◌++◌, map as list_map}
use Rattle.std.specs.Prelude.{is_some, ◌||◌}
use Rattle.std.specs.List.{list_any}
use Rattle.std.proofs.lemmas.Bool.Decides.{eqb_tells}
use Rattle.std.proofs.lemmas.List.Folds.{list_any-append}
use Rattle.std.specs.Cmp.{nat_cmp_total, unsigned_tied}
use Rattle.std.specs.Ordering.{nat_cmp, eq_by_cmp}
use Rattle.std.specs.FinMap as map
use Rattle.frame_store.specs.View.{View, Hold, hold_of, or_not_held, either, or_zero, union, added, joined_frames, joined}

-- lookups in a map that has `G k` for each key k of a list, or for each key of two maps
module _ {X : Type 0} (G : ℕ → X) (f : ℕ) where
  pub find-made : (ks : List ℕ) → map.find nat_cmp f (list_map (λ k. (k, G k)) ks) ≡ cond (list_any (eq_by_cmp nat_cmp f) ks) (Some (G f)) None
  find-made [] = refl
  find-made (k ∷ ks) = elim (eqb_tells f k) as (λ _. map.find nat_cmp f ((k, G k)
      ∷ list_map (λ k. (k, G k)) ks) ≡ cond (eq_by_cmp nat_cmp f k || list_any (eq_by_cmp nat_cmp f) ks) (Some (G f)) None) [
        | inl t ↦ rw (unsigned_tied f k, t.0, t.1)
        | inr t ↦ rw (unsigned_tied f k, t.0) (find-made ks)
      ]

  pub get-made : {Y Z : Type 0} (a : map.FinMap nat_cmp Y) (b : map.FinMap nat_cmp Z)
      → map.get (map.from_entries {R = nat_cmp} (list_map (λ k. (k, G k)) (map.keys a ++ map.keys b))) f ≡ cond (is_some (map.get a f)
      || is_some (map.get b f)) (Some (G f)) None
  get-made a b = map.get-from_entries nat_cmp_total _ f ∙ find-made (map.keys a ++ map.keys b)
      ∙ ap (λ t. cond t (Some (G f)) None) (list_any-append (eq_by_cmp nat_cmp f) (map.keys a) (map.keys b)
      ∙ sym (ap (λ t. t || list_any (eq_by_cmp nat_cmp f) (map.keys b)) (map.contains_key-keys a f))
      ∙ sym (ap (λ t. is_some (map.get a f) || t) (map.contains_key-keys b f)))

picked : (a b : Option ℕ) → cond (is_some a || is_some b) (Some (or_zero (either a b))) None ≡ either a b
picked (Some x) b = refl
picked None (Some y) = refl
picked None None = refl

pub get-union : (a b : map.FinMap nat_cmp ℕ) (i : ℕ) → map.get (union a b) i ≡ either (map.get a i) (map.get b i)
unfolding union
get-union a b i = get-made (λ k. or_zero (either (map.get a k) (map.get b k))) i a b ∙ picked (map.get a i) (map.get b i)

held_in : (a b : Option Hold)
    → or_not_held (cond (is_some a || is_some b) (Some (added (or_not_held a) (or_not_held b))) None) ≡ added (or_not_held a) (or_not_held b)
held_in (Some x) b = refl
held_in None (Some y) = refl
held_in None None = refl

pub hold_of-joined : (v w : View) (f : ℕ) → hold_of (joined v w) f ≡ added (hold_of v f) (hold_of w f)
unfolding hold_of joined_frames
hold_of-joined v w f = ap or_not_held (get-made (λ k. added (hold_of v k) (hold_of w k)) f v.frames w.frames)
    ∙ held_in (map.get v.frames f) (map.get w.frames f)
