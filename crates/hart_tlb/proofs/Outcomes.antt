-- Lemmas: a walk has at most one outcome (a TLB entry), and none if it ends in an access fault; and an entry's answer to an
-- access of its page is what a walk translates the access to, if the leaf's frame is inside the memory as a whole or not at
-- all.
use Rattle.std.proofs.Common.{◌≡◌, ℕ, Bool, Option, Some, None, inl, inr, refl, ap, sym, ◌∙◌}
use Rattle.std.proofs.lemmas.Bool.{cases_Bool, false≢true}
use Rattle.sv39_entry.specs.Address.{page_of}
use Rattle.sv39_entry.specs.Word.{permits}
use Rattle.sv39_entry.specs.declared.access.Access.{Access}
use Rattle.sv39_entry.specs.declared.access.Mode.{Mode}
use Rattle.sv39_entry.specs.declared.scheme.Scheme.{Scheme}
use Rattle.table_walk.specs.Memory.{Extent, Memory}
use Rattle.table_walk.specs.Walk.{Finds, Translates}
use Rattle.table_walk.specs.declared.walk.Found.{Found}
use Rattle.table_walk.specs.declared.walk.Found.TheVariants as found
use Rattle.table_walk.specs.Leaves.{answer, Leaf}
use Rattle.hart_tlb.specs.Outcome.{EndsInAccessFault, IsOutcome, LeadsToWhole, IsWalkResult}
use Rattle.hart_tlb.specs.declared.entry.TlbEntry.{TlbEntry}
use Rattle.hart_tlb.proofs.Pages.{byte_on_page, finds_on_page}

module _ (s : Scheme) (m : Memory) (there : Extent) (root address : ℕ) where
  module _ (one : (x y : Found) → Finds s m root address x → Finds s m root address y → x ≡ y) where
    one_shown : (a b : Option Leaf) (g h : Bool) → IsWalkResult s m there root address a g → IsWalkResult s m there root address b h → (a ≡ b) × (g ≡ h)
    one_shown None None g h p q = (refl, p.1 ∙ sym q.1)
    one_shown None (Some b) g h p q = let same = one found.NoLeaf (found.Leaf b.word b.level h) p.0 q.0 in absurd (cc)
    one_shown (Some a) None g h p q = let same = one (found.Leaf a.word a.level g) found.NoLeaf p.0 q.0 in absurd (cc)
    one_shown (Some a) (Some b) g h p q =
        let same = one (found.Leaf a.word a.level g) (found.Leaf b.word b.level h) p.0 q.0 in
        let words : a.word ≡ b.word = cc in
        let levels : a.level ≡ b.level = cc in
        let marks : g ≡ h = cc in
        let leaves : a ≡ b = λ i. record { word = words i; level = levels i } in
        (ap Some leaves, marks)

    pub one_outcome : (asid : ℕ) (d e : TlbEntry) → IsOutcome s m there root asid address d → IsOutcome s m there root asid address e → d ≡ e
    one_outcome asid d e p q =
        let pages = p.of_page ∙ sym q.of_page in
        let spaces = p.of_space ∙ sym q.of_space in
        let shown = one_shown d.leaf e.leaf d.global e.global p.shown q.shown in
        λ i. record { page = pages i; asid = spaces i; global = shown.1 i; leaf = shown.0 i }

    no_fault : (leaf : Option Leaf) (global : Bool) → IsWalkResult s m there root address leaf global → EndsInAccessFault s m there root address → ⊥
    no_fault None global p (inl out) = let same = one found.NoLeaf found.Outside p.0 out in cc
    no_fault None global p (inr gone) = let same = one found.NoLeaf (found.Leaf gone.0.word gone.0.level gone.1) p.0 gone.2 in cc
    no_fault (Some leaf) global p (inl out) = let same = one (found.Leaf leaf.word leaf.level global) found.Outside p.0 out in cc
    no_fault (Some leaf) global p (inr gone) =
        let same = one (found.Leaf leaf.word leaf.level global) (found.Leaf gone.0.word gone.0.level gone.1) p.0 gone.2 in
        let words : leaf.word ≡ gone.0.word = cc in
        let levels : leaf.level ≡ gone.0.level = cc in
        false≢true (sym gone.3 ∙ (rw (words, levels) at p.1))

    pub outcome_or_fault : (asid : ℕ) (e : TlbEntry) → IsOutcome s m there root asid address e → EndsInAccessFault s m there root address → ⊥
    outcome_or_fault asid e p fault = no_fault e.leaf e.global p.shown fault

  pub answer_translates : (access : Access) (mode : Mode) (a : ℕ) (leaf : Option Leaf) (global : Bool) → page_of a ≡ page_of address
      → IsWalkResult s m there root a leaf global → LeadsToWhole there address leaf → Translates s m there root address access mode (answer leaf address access mode)
  answer_translates access mode a None global same p whole = (refl, inl (finds_on_page a address same s m root found.NoLeaf p.0))
  answer_translates access mode a (Some leaf) global same p whole =
      let finds = finds_on_page a address same s m root (found.Leaf leaf.word leaf.level global) p.0 in
      elim (cases_Bool (permits mode access leaf.word)) [
        | inl permitted ↦ rw permitted (finds.0, permitted, refl, byte_on_page a address same there leaf.word leaf.level whole p.1)
        | inr denied ↦ rw denied (refl, inr (leaf.word, leaf.level, finds.0, denied))
      ]
