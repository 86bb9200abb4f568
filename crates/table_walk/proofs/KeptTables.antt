-- Lemmas about tables in which the last one on the way to a page is there: no table on the way is missing, so that these
-- tables are already grown as far as the page (`IsGrown`), and growing them changes nothing for the seat.
use Rattle.std.proofs.Common.{◌≡◌, ℕ, inl, refl, Option, Some, None}
use Rattle.std.specs.FinMap.{get}
use Rattle.frame_store.specs.View.{View}
use Rattle.sv39_entry.specs.Schemes.{top_level}
use Rattle.sv39_entry.specs.declared.scheme.Scheme.{Scheme}
use Rattle.table_walk.specs.Tables.{ChangesTables, HasTables, Tables, IsGrown, last_table, missing, node}
use Rattle.table_walk.proofs.Children.{missing_at, none_missing}
use Rattle.table_walk.proofs.Grown.{no_change}

there : (o : Option ℕ) → (o ≡ None → ⊥) → (f : ℕ) × (o ≡ Some f)
there None not = absurd (not refl)
there (Some f) not = (f, refl)

module _ {s : Scheme} (v : View) (root : ℕ) (t : Tables) (h : HasTables s v root t) (page f : ℕ) (at : get t.tables (last_table s page) ≡ Some f) where
  pub grown_here : IsGrown s t t page (top_level s)
  grown_here = record {
    leaves = refl;
    kept = λ k g is. is;
    new = λ k g is. inl is;
    whole = λ i low. there (get t.tables (node s page i)) (λ none. let gone = missing_at _ root t h.known page i (top_level s) low none in cc);
  }

  pub none_here : ChangesTables v v t t (missing s t page)
  none_here = rw (none_missing _ root t h.known page (top_level s) f at) (no_change v t)
