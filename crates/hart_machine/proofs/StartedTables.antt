-- `tables_with`, a function: the page tables of each slot with those of one slot replaced; and two lemmas on it.
use Rattle.std.proofs.Common.{◌≡◌, ℕ, ◌==◌, cond, ap}
use Rattle.std.proofs.lemmas.Bool.{eq-eqb, ne_eqb}
use Rattle.table_walk.specs.Tables.{Tables}

-- as before but for one slot
abbrev pub tables_with : (ℕ → Tables) → ℕ → Tables → ℕ → Tables
tables_with tables s t k = cond (k == s) t (tables k)

module _ (tables : ℕ → Tables) (s : ℕ) (t : Tables) (k : ℕ) where
  pub tables_here : k ≡ s → tables_with tables s t k ≡ t
  tables_here same = ap (λ b. cond b t (tables k)) (eq-eqb k s same)

  pub tables_there : (k ≡ s → ⊥) → tables_with tables s t k ≡ tables k
  tables_there apart = ap (λ b. cond b t (tables k)) (ne_eqb k s apart)
