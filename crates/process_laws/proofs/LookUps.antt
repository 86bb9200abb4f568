-- Lemmas about maps from page numbers: what is found after an insertion is the new value at its key, or was there; what is
-- found after a selection of keys was there.
use Rattle.std.proofs.Common.{◌≡◌, ℕ, Bool, true, false, cond, ◌⊎◌, inl, inr, refl, sym, ap, ◌∙◌, Option, None, Some}
use Rattle.std.specs.Ordering.{nat_cmp, eq_by_cmp, is_eq}
use Rattle.std.specs.Cmp.{nat_cmp_total, unsigned_tied}
use Rattle.std.specs.FinMap.Entries.{find-put, find-where_key}
use Rattle.std.proofs.lemmas.Bool.{eqb-true}
use Rattle.std.proofs.lemmas.Option.{same_Some}
use Rattle.process_model.specs.PageMap.{PageMap, get, insert, only}

either : {A : Type 0} (b : Bool) (v x : A) (o : Option A) → cond b (Some v) o ≡ Some x → ((b ≡ true) × (v ≡ x)) ⊎ (o ≡ Some x)
either true v x o e = inl (refl, same_Some v x e)
either false v x o e = inr e

if_passed : {A : Type 0} (b : Bool) (x : A) (o : Option A) → cond b o None ≡ Some x → o ≡ Some x
if_passed true x o e = e
if_passed false x o e = cc

same_key : (q k : ℕ) → eq_by_cmp nat_cmp q k ≡ true → q ≡ k
same_key q k e = eqb-true q k (sym (unsigned_tied q k) ∙ e)

module _ {X : Type 0} where
  -- the new value, or what was there
  pub found_inserted : (m : PageMap X) (k q : ℕ) (v x : X) → get (insert m k v) q ≡ Some x → ((q ≡ k) × (v ≡ x)) ⊎ (get m q ≡ Some x)
  found_inserted m k q v x e =
      elim (either (eq_by_cmp nat_cmp q k) v x (get m q) (sym (find-put nat_cmp nat_cmp_total q k v m.entries) ∙ e)) [
        | inl is ↦ inl (same_key q k is.0, is.1)
        | inr is ↦ inr is
      ]

  -- what was there
  pub found_only : (p : ℕ → Bool) (m : PageMap X) (q : ℕ) (x : X) → get (only p m) q ≡ Some x → get m q ≡ Some x
  found_only p m q x e = if_passed (p q) x (get m q) (sym (find-where_key nat_cmp p q (λ k t. ap p (sym (same_key q k (ap is_eq t)))) m.entries) ∙ e)
