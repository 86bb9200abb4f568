-- A lemma: a walk of tables is at frames of these tables alone, in any memory that has their words.
use Rattle.std.proofs.Common.{◌≡◌, ℕ, zero, suc, ◌-◌, ◌<◌, ◌≤◌, ap, sym, ◌∙◌, arith, Option, None, Some, refl}
use Rattle.std.proofs.lemmas.Option.{same_Some}
use Rattle.std.specs.FinMap.{get}
use Rattle.sv39_entry.specs.Address.{vpn}
use Rattle.sv39_entry.specs.Frame.{ppn_of}
use Rattle.sv39_entry.specs.Schemes.{top_level}
use Rattle.sv39_entry.specs.Word.{kind_of, pointer_word, ppn}
use Rattle.sv39_entry.specs.declared.entry.Kind.TheVariants.{Pointer}
use Rattle.sv39_entry.specs.declared.scheme.Scheme.{Scheme}
use Rattle.table_walk.proofs.Children.{pointer_ppn}
use Rattle.table_walk.proofs.TableWords.{kind-zero, word_high}
use Rattle.table_walk.specs.Memory.{Memory}
use Rattle.table_walk.specs.Nodes.{table_number, vpn_low}
use Rattle.table_walk.specs.Tables.{AreTables, Tables, node, pointer_or_zero, word_in}
use Rattle.table_walk.specs.Walk.{IsAt}

from_pointer : (o : Option ℕ) (w : ℕ) → w ≡ pointer_or_zero o → kind_of w ≡ Pointer → (f : ℕ) × (o ≡ Some f) × (w ≡ pointer_word f)
from_pointer None w is kind = absurd (let invalid = ap kind_of is ∙ kind-zero in cc)
from_pointer (Some f) w is kind = (f, refl, is)

module _ (s : Scheme) (known : ℕ → ℕ → Option ℕ) (root : ℕ) (t : Tables) (are : AreTables s known root t) (m : Memory)
    (there : (k f i : ℕ) → get t.tables k ≡ Some f → i < 512 → m (ppn_of f) i ≡ known f i) where
  pub table_at : (page k table : ℕ) → k ≤ top_level s → IsAt s m (ppn_of root) page k table → (f : ℕ) × (get t.tables (node s page k) ≡ Some f) × (table ≡ ppn_of f)
  table_at page zero table low way = (root, are.rooted, way)
  table_at page (suc k) table low way =
      let up = table_at page k way.0 (omega (arith, low)) way.2 in
      let i = vpn page (top_level s - k) in
      let small = vpn_low page (top_level s - k) in
      let word : way.1 ≡ word_in t (node s page (suc k)) =
      same_Some _ _ (sym (rw up.2 at way.3) ∙ there (node s page k) up.0 i up.1 small ∙ are.words (node s page k) up.0 i up.1 small) in
      let from = from_pointer _ way.1 (word ∙ word_high t _ (table_number s page (suc k) low)) way.4 in
      (from.0, from.1, way.5 ∙ ap ppn from.2 ∙ pointer_ppn from.0 (are.below _ from.0 from.1).2)
