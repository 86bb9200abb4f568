-- Lemma: a seat still has the page tables below a root after any change that leaves what it holds and knows of their frames
-- as it was (`same_tables`).
use Rattle.std.proofs.Common.{◌≡◌, ℕ, ◌<◌, Some, sym, ap, ◌∙◌, subst}
use Rattle.std.specs.FinMap.{get}
use Rattle.frame_store.specs.View.{Hold, View, hold_of, IsHeld}
use Rattle.sv39_entry.specs.declared.scheme.Scheme.{Scheme}
use Rattle.table_walk.specs.Tables.{HasTables, Tables}

pub same_held : (v w : View) (f : ℕ) → hold_of w f ≡ hold_of v f → IsHeld v f → IsHeld w f
same_held v w f same held = subst (λ (h : Hold). 0 < h.references) (sym same) held

-- if what a seat has of each frame of its tables stays, it has the tables still
pub same_tables : {s : Scheme} (v w : View) (root : ℕ) (t : Tables) → ((k f : ℕ) → get t.tables k ≡ Some f → hold_of w f ≡ hold_of v f)
    → HasTables s v root t → HasTables s w root t
same_tables v w root t same has = record {
  known = record {
    rooted = has.known.rooted;
    words = λ k f i at low. ap (λ (h : Hold). get h.words i) (same k f at) ∙ has.known.words k f i at low;
    apart = has.known.apart;
    below = has.known.below;
    hung = has.known.hung;
    leaf_hung = has.known.leaf_hung;
  };
  own = λ k f at.
      let own = has.own k f at in
      (same_held v w f (same k f at) own.0, ap (λ (h : Hold). h.sole) (same k f at) ∙ own.1);
}
