-- Lemmas on one walk: so many pointers lead to one table (`same_table`), a pointer leads one level down (`down`), and a walk ends once (`goes_on`).
use Rattle.std.proofs.Common.{◌≡◌, inl, inr, refl, sym, ap, subst, ◌∙◌, ℕ, zero, suc, ◌-◌, ◌<◌, Option, Some, arith}
use Rattle.std.proofs.lemmas.Bool.{cases_lt}
use Rattle.std.proofs.lemmas.Option.{same_Some}
use Rattle.sv39_entry.specs.Address.{vpn}
use Rattle.sv39_entry.specs.Word.{ppn}
use Rattle.sv39_entry.specs.declared.entry.Kind.TheVariants.{Pointer}
use Rattle.walk_rules.specs.Kinds.{kind_in}
use Rattle.walk_rules.specs.declared.extensions.Extensions.{Extensions}
use Rattle.access_history.specs.History.{Memory}
use Rattle.access_history.specs.Walks.{IsWay}
use Rattle.table_dumps.specs.Listings.{Reads}

-- the walk goes no further than this word
abbrev pub Ends : Extensions → ℕ → Option ℕ → Type 0
Ends x level word = (w : ℕ) → word ≡ Some w → kind_in x level w ≡ Pointer → ⊥

module _ (x : Extensions) (m : Memory) (root top page : ℕ) where
  pub same_table : (k a b : ℕ) → IsWay x m root page top k a → IsWay x m root page top k b → a ≡ b
  same_table zero a b p q = p ∙ sym q
  same_table (suc k) a b p q =
      let above = same_table k p.0 q.0 p.2 q.2 in
      let word : Some p.1 ≡ Some q.1 = sym p.3 ∙ ap (λ t. m t (vpn page (top - k))) above ∙ q.3 in
      p.5 ∙ ap ppn (same_Some _ _ word) ∙ sym q.5

  -- a pointer leads one level down
  pub down : (level pointer : ℕ) → Reads x m root top page level pointer → kind_in x level pointer ≡ Pointer → IsWay x m root page top (suc top - level) (ppn pointer)
  down level pointer reads kind =
      let low = reads.low in
      let more : suc top - level ≡ suc (top - level) = omega (arith, low) in
      let back : top - (top - level) ≡ level = omega (arith, low) in
      rw more (reads.table, pointer, reads.way, rw back reads.read, rw back kind, refl)

  -- a walk that comes past a table goes on from it
  pub goes_on : (j k a b : ℕ) (w : Option ℕ) → IsWay x m root page top j b → IsWay x m root page top k a → k < j → m a (vpn page (top - k)) ≡ w → Ends x (top - k) w → ⊥
  goes_on zero k a b w q p lt read ends = absurd (omega (arith, lt))
  goes_on (suc j) k a b w q p lt read ends =
      elim (cases_lt k j) as (λ _. ⊥) [
        | inl less ↦ goes_on j k a q.0 w q.2 p less read ends
        | inr more ↦
            let same : k ≡ j = omega (arith, lt, more) in
            let above : a ≡ q.0 = same_table j a q.0 (subst (λ i. IsWay x m root page top i a) same p) q.2 in
            ends q.1 (sym read ∙ ap (λ t. m t (vpn page (top - k))) above ∙ ap (λ i. m q.0 (vpn page (top - i))) same ∙ q.3)
            (ap (λ i. kind_in x (top - i) q.1) same ∙ q.4)
      ]
