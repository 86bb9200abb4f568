-- Lemmas: what is permitted by a PTE that serves a plain access: as its leaf says, or a page fault.
use Rattle.std.proofs.Common.{◌≡◌, ℕ, ◌*◌, ◌%◌, ◌^◌, ◌≤◌, ◌&&◌, Bool, true, false, refl, sym, subst, ◌∙◌, inl, inr, None, []}
use Rattle.std.proofs.lemmas.Bool.{and_cases, and_right, cases_Bool, ne_eqb}
use Rattle.sv39_entry.specs.Causes.{access_fault_cause, page_fault_cause}
use Rattle.sv39_entry.specs.Word.{kind_of, permits, ppn}
use Rattle.sv39_entry.specs.declared.access.Mode.{Mode}
use Rattle.sv39_entry.specs.declared.entry.Kind.{Kind}
use Rattle.sv39_entry.specs.declared.entry.Kind.TheVariants.{Invalid, Leaf, Pointer}
use Rattle.table_walk.specs.Memory.{physical_address}
use Rattle.walk_rules.specs.Addresses.{leads_to}
use Rattle.walk_rules.specs.Kinds.{kind_in}
use Rattle.walk_rules.specs.Rights.{allows, has_ad}
use Rattle.walk_rules.specs.declared.extensions.Extensions.{Extensions}
use Rattle.walk_rules.specs.declared.memory_type.MemoryType.TheVariants.{Pma}
use Rattle.access_history.specs.Held.{Read}
use Rattle.access_history.specs.Permits.{Ends, Past, Permits, Says, Serves, granted, is_there, no_leaf, no_right, privilege_of, ready, refused, served}
use Rattle.access_history.specs.Permits as permits
use Rattle.access_history.specs.declared.outcome.Outcome.{Outcome}
use Rattle.access_history.specs.declared.outcome.Outcome.TheVariants.{Granted, Refused}
use Rattle.access_history.specs.declared.outcome.Request.{Request}
use Rattle.access_history.proofs.PlainRights.{plain_place, plain_rights}
use Rattle.history_laws.specs.PlainWalks.{IsPlainAccess, IsPlainHart}
use Rattle.history_laws.proofs.FreePmp.{passes}
use Rattle.history_laws.proofs.PlainEntries.{leaf_clear, no_napot, of_leaf, plain_type}

pub left_of : (a b : Bool) → (a && b) ≡ true → a ≡ true
left_of true b both = refl
left_of false b both = both

pub right_of : (a b : Bool) → (a && b) ≡ true → b ≡ true
right_of true b both = both
right_of false b both = absurd (let bad : false ≡ true = both in cc)

module _ (x : Extensions) (plain : IsPlainHart x) (p : Past) (free : p.first.pmp ≡ []) (q : Request) (mode : Mode) (access : IsPlainAccess q mode) (r : Read)
    (serves : Serves x p q r) where
  -- an entry that is no leaf, or a misaligned one: a page fault
  pub no_leaf_faults : (kind_in x r.level r.word ≡ Leaf → ⊥) → Permits x p q (Refused (page_fault_cause q.kind) None)
  no_leaf_faults other = served access.whole access.translated serves (no_leaf other)

  pub misaligned_faults : kind_in x r.level r.word ≡ Leaf → (ppn r.word % 2 ^ (9 * r.level) ≡ 0 → ⊥) → Permits x p q (Refused (page_fault_cause q.kind) None)
  misaligned_faults leaf odd = served access.whole access.translated serves (no_right leaf (and_right _ _ (ne_eqb (ppn r.word % 2 ^ (9 * r.level)) 0 odd)))

  -- where a walk ends without a leaf
  end_by : (kind : Kind) → kind_in x r.level r.word ≡ kind → (kind_in x r.level r.word ≡ Leaf → ppn r.word % 2 ^ (9 * r.level) ≡ 0 → ⊥)
      → Permits x p q (Refused (page_fault_cause q.kind) None)
  end_by Invalid kind odd = no_leaf_faults (λ leaf. let bad : Invalid ≡ Leaf = sym kind ∙ leaf in cc)
  end_by Pointer kind odd = no_leaf_faults (λ leaf. let bad : Pointer ≡ Leaf = sym kind ∙ leaf in cc)
  end_by Leaf kind odd = misaligned_faults kind (odd kind)

  pub end_faults : (kind_in x r.level r.word ≡ Leaf → ppn r.word % 2 ^ (9 * r.level) ≡ 0 → ⊥) → Permits x p q (Refused (page_fault_cause q.kind) None)
  end_faults odd = end_by (kind_in x r.level r.word) refl odd

  module _ (leaf : kind_of r.word ≡ Leaf) (aligned : ppn r.word % 2 ^ (9 * r.level) ≡ 0) (low : r.level ≤ 4) where
    abbrev address : ℕ
    address = physical_address r.word r.level q.va.0

    leads : leads_to r.level r.word q.va.0 ≡ address
    leads = plain_place r.level r.word q.va.0 low (no_napot r.word (leaf_clear r.word leaf)) aligned

    rights : (allows q.status mode q.kind r.level r.word && has_ad q.kind r.word) ≡ permits mode q.kind r.word
    rights = plain_rights q.status access.sum access.mxr mode q.kind r.level r.word aligned

    permitted : (o : Outcome) → permits mode q.kind r.word ≡ true → Ends p q address Pma None o → Permits x p q o
    permitted o right ends =
        let both = rights ∙ right in
        let at = subst (λ (pa : ℕ). Ends p q pa Pma None o) (sym leads) ends in
        served access.whole access.translated serves
        (ready (record { leaf = of_leaf x plain.napot plain.pbmt r.level r.word leaf; right = left_of _ _ both }) (right_of _ _ both)
        (plain_type r.word (leaf_clear r.word leaf)) at)

    pub is_granted : permits mode q.kind r.word ≡ true → is_there p address ≡ true → Permits x p q (Granted address Pma None)
    is_granted right there = permitted _ right (granted there (passes p.first.pmp free p.events (privilege_of q) q.kind address q.width))

    pub is_gone : permits mode q.kind r.word ≡ true → is_there p address ≡ false → Permits x p q (Refused (access_fault_cause q.kind) None)
    is_gone right gone = permitted _ right (refused (inl refl) (inl gone))

    pub is_denied : permits mode q.kind r.word ≡ false → Permits x p q (Refused (page_fault_cause q.kind) None)
    is_denied none = elim (cases_Bool (allows q.status mode q.kind r.level r.word)) [
      | inr denied ↦ served access.whole access.translated serves (no_right (of_leaf x plain.napot plain.pbmt r.level r.word leaf) denied)
      | inl right ↦ elim (and_cases _ _ (rights ∙ none)) [
        | inl denied ↦ served access.whole access.translated serves (no_right (of_leaf x plain.napot plain.pbmt r.level r.word leaf) denied)
        | inr clear ↦ served access.whole access.translated serves
            (permits.faults (record { leaf = of_leaf x plain.napot plain.pbmt r.level r.word leaf; right = right }) clear plain.faults)
      ]
    ]
