-- Lemmas for the tests of page tables: what a seat holds after a claim, a write and a release; enough credits for each page
-- that is mapped; a page that was found has a leaf; and tables without leaves can be released.
use Rattle.std.proofs.Common.{◌≡◌, ℕ, zero, suc, ◌+◌, ◌-◌, ◌*◌, ◌<◌, ◌≤◌, ◌==◌, Bool, true, false, cond, refl, ap, sym, subst, ◌∙◌, arith, Option, None, Some, Result, Ok, Err, lit<, inl, inr}
use Rattle.std.specs.Prelude.{if◌then◌else◌, is_ok, is_some, IfOk, IsSome}
use Rattle.std.specs.FinMap as map
use Rattle.std.specs.FinMap.{get, insert}
use Rattle.std.specs.Ordering.{nat_cmp}
use Rattle.std.proofs.lemmas.Bool.{cases_eq}
use Rattle.std.proofs.lemmas.Option.{same_Some}
use Rattle.frame_store.specs.Holds.{opening_holds, hold_of-frames, hold_of-with_hold_other, hold_of-with_hold_same, hold_of-without_hold_other}
use Rattle.frame_store.specs.View.{Hold, View, opening_view, with_credits, claimed, hold_of, IsHeld, IsSole, references, released, sole_hold, with_hold, with_word, without_hold}
use Rattle.table_walk.specs.TableChanges.{IsNextLeafBefore, places}
use Rattle.table_walk.specs.Tables.{HasTables, Tables, IsGrown, ChangesTables, bare_root, blank_hold, missing, missing_to, node, root_node, walk_leaf, with_leaf, without_leaf}
use Rattle.table_walk.specs.Keys.{insert_other, insert_same, remove_other, remove_same}
use Rattle.table_walk.specs.SameFrames.{same_held}
use Rattle.table_walk.specs.TableRelease.{AreLast}
use Rattle.table_walk.specs.Nodes.{low_leaf}
use Rattle.sv39_entry.specs.Schemes.{of_scheme, top_level}
use Rattle.sv39_entry.specs.declared.scheme.Scheme.{Scheme}
use Rattle.sv39_entry.specs.declared.scheme.Scheme.TheVariants.{Sv39, Sv48}

-- ---- a frame is claimed, written and let go

module _ (f : ℕ) (v : View) where
  pub claimed_hold : (w : View) → w ≡ claimed f v → hold_of w f ≡ sole_hold
  claimed_hold w e = ap (λ u. hold_of u f) e ∙ hold_of-with_hold_same f sole_hold _

  pub claimed_held : (w : View) → w ≡ claimed f v → IsHeld w f × IsSole w f
  claimed_held w e = let here = claimed_hold w e in (subst (λ (h : Hold). 0 < h.references) (sym here) (lit< tt), ap (λ (h : Hold). h.sole) here)

  pub taken_one : (w : View) → w ≡ claimed f v → 0 < v.credits → w.credits + 1 ≡ v.credits
  taken_one w e some = let left : w.credits ≡ v.credits - 1 = ap (λ (u : View). u.credits) e in omega (arith, left, some)

  pub claimed_other : (g : ℕ) → (g ≡ f → ⊥) → hold_of (claimed f v) g ≡ hold_of v g
  claimed_other g apart = hold_of-with_hold_other f sole_hold _ g apart ∙ hold_of-frames _ v refl g

  pub released_other : (g : ℕ) → (g ≡ f → ⊥) → hold_of (released f v) g ≡ hold_of v g
  released_other g apart = elim (references v f == 1) as (λ b. hold_of (cond b (without_hold f v) (with_hold f (record (hold_of v f) { references = references v f - 1 }) v)) g ≡ hold_of v g) [
    | true ↦ hold_of-without_hold_other f v g apart
    | false ↦ hold_of-with_hold_other f _ v g apart
  ]

  pub written_hold : (i x : ℕ) (w : View) → w ≡ with_word f i x v → IsHeld v f → IsSole v f → IsHeld w f × IsSole w f
  written_hold i x w e held sole =
      let here = ap (λ u. hold_of u f) e ∙ hold_of-with_hold_same f (record (hold_of v f) { words = map.insert (hold_of v f).words i x }) v in
      (subst (λ (h : Hold). 0 < h.references) (sym here) held, ap (λ (h : Hold). h.sole) here ∙ sole)

  pub written_other : (i w g : ℕ) → (g ≡ f → ⊥) → hold_of (with_word f i w v) g ≡ hold_of v g
  written_other i w g apart = hold_of-with_hold_other f _ v g apart

  -- it was not held before
  pub fresh_apart : (g : ℕ) → references v f ≡ 0 → IsHeld v g → g ≡ f → ⊥
  fresh_apart g none held e = let no : references v g ≡ 0 = ap (references v) e ∙ none in omega (arith, no, held)

-- ---- tables that changed

one_or_none : (b : Bool) → (if b then 0 else 1) ≤ 1
one_or_none true = omega arith
one_or_none false = omega arith

some_missing : (s : Scheme) (t : Tables) (page k : ℕ) → missing_to s t page k ≤ k
some_missing s t page zero = omega arith
some_missing s t page (suc k) = let rest = some_missing s t page k in let one = one_or_none (is_some (get t.tables (node s page (suc k)))) in omega (arith, rest, one)

pub missing_low : (s : Scheme) (t : Tables) (page : ℕ) → missing s t page ≤ 3
missing_low s t page = let some = some_missing s t page (top_level s) in let few = (of_scheme s).few_levels in omega (arith, some, few)

-- as many credits as the pages that are left may need
pub enough_left : (s : Scheme) (v w : View) (t u : Tables) (page i : ℕ) → ChangesTables v w t u (missing s t page) → 3 * (5 - i) ≤ v.credits → 3 * (5 - (i + 1)) ≤ w.credits
enough_left s v w t u page i changes enough = let low = missing_low s t page in let left = changes.credits in omega (arith, low, left, enough)

-- and the page that comes next can be mapped
pub enough_now : (s : Scheme) (v : View) (t : Tables) (page i : ℕ) → i < 5 → 3 * (5 - i) ≤ v.credits → missing s t page ≤ v.credits
enough_now s v t page i more enough = let low = missing_low s t page in omega (arith, low, more, enough)

-- what is ensured of a success
pub of_ok : {A E : Type 0} {P : Type 0} (r : Result A E) → is_ok r ≡ true → IfOk r (λ _. P) → P
of_ok (Ok x) is ok = ok
of_ok (Err x) is ok = absurd (cc)

pub same_view : {s : Scheme} (v w : View) (root : ℕ) (t : Tables) → w ≡ v → HasTables s v root t → HasTables s w root t
same_view {s} v w root t same has = subst (λ u. HasTables s u root t) (sym same) has

-- a page that was found has a leaf
found_number : (s : Scheme) (page : ℕ) → page < places (top_level s) → walk_leaf s page ≡ root_node s * places (top_level s) + page
found_number Sv39 page low = low_leaf Sv39 page low
found_number Sv48 page low = low_leaf Sv48 page low

pub found_leaf : (s : Scheme) (t : Tables) (from end : ℕ) (o : Option (ℕ × ℕ)) (p : ℕ × ℕ) → o ≡ Some p → IsNextLeafBefore s t from end o → IsSome (get t.leaves (walk_leaf s p.0))
found_leaf s t from end o p is found =
    let leaf = (subst (IsNextLeafBefore s t from end) is found).1 in
    ap is_some (ap (get t.leaves) (found_number s p.0 leaf.1) ∙ leaf.2)

-- ---- frames are reserved at a new store

pub reserved_held : {size : ℕ} (v w : View) (n : ℕ) → v ≡ opening_view size → w ≡ with_credits n v → IsHeld w 0
reserved_held v w n opened reserved = same_held v w 0 (ap (λ u. hold_of u 0) reserved ∙ hold_of-frames (with_credits n v) v refl 0) (opening_holds v opened)

-- ---- a page is mapped below a new root, and unmapped

module _ (s : Scheme) (v w x y : View) (root page number leaf n : ℕ) (u : Tables) (held : IsHeld v 0) (fresh : references v root ≡ 0) (made : w ≡ with_hold root blank_hold (claimed root v))
    (still_held : IsHeld w 0) (grown : IsGrown s (bare_root s root) u page (top_level s)) (mapped : ChangesTables w x (bare_root s root) u n) (anchored : IsHeld x 0)
    (unmapped : ChangesTables x y (with_leaf u number leaf) (with_leaf u number leaf) 0) where
  -- beside its root a bare tree has no table
  no_table : (k : ℕ) → (k ≡ root_node s → ⊥) → get (bare_root s root).tables k ≡ None
  no_table k ne = insert_other map.empty (root_node s) root k ne ∙ map.get-empty {X = ℕ} nat_cmp k

  root_at : get (bare_root s root).tables (root_node s) ≡ Some root
  root_at = insert_same map.empty (root_node s) root (root_node s) refl

  the_root : (k f : ℕ) → get u.tables k ≡ Some f → k ≡ root_node s → f ≡ root
  the_root k f at e = same_Some f root (sym at ∙ ap (get u.tables) e ∙ grown.kept (root_node s) root root_at)

  made_once : (k f : ℕ) → get u.tables k ≡ Some f → references x f ≡ 1
  made_once k f at = elim (cases_eq k (root_node s)) [
    | inl e ↦ rw (the_root k f at e) (mapped.old (root_node s) root root_at ∙ ap (λ (h : Hold). h.references) (ap (λ z. hold_of z root) made ∙ hold_of-with_hold_same root blank_hold (claimed root v)))
    | inr ne ↦ (mapped.new k f at (no_table k ne)).1
  ]

  not_anchor : (k : ℕ) → get u.tables k ≡ Some 0 → ⊥
  not_anchor k at = elim (cases_eq k (root_node s)) [
    | inl e ↦ (let same = the_root k 0 at e in let none = rw (← same) at fresh in omega (arith, none, held))
    | inr ne ↦ (let none = (mapped.new k 0 at (no_table k ne)).0 in omega (arith, none, still_held))
  ]

  pub left_last : AreLast y (without_leaf (with_leaf u number leaf) number)
  left_last = record {
    bare = λ m. elim (cases_eq m number) [
      | inl e ↦ remove_same (insert u.leaves number leaf) number m e
      | inr ne ↦
          remove_other (insert u.leaves number leaf) number m ne
          ∙ insert_other u.leaves number leaf m ne ∙ ap (λ leaves. get leaves m) grown.leaves ∙ map.get-empty {X = ℕ} nat_cmp m
    ];
    once = λ k f at. unmapped.old k f at ∙ made_once k f at;
    anchored = same_held x y 0 (unmapped.apart 0 not_anchor) anchored;
    apart = not_anchor;
  }
