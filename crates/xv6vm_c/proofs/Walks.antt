-- Lemmas: a walk over a memory, scheme and root that are equal to others is a walk over those.
use Rattle.std.proofs.Common.{◌≡◌, ℕ, subst}
use Rattle.hart_tlb.specs.Outcome.{EndsInAccessFault}
use Rattle.lent_memory.specs.Memory.{Lent, lent_extent, lent_memory}
use Rattle.sv39_entry.specs.declared.scheme.Scheme.{Scheme}
use Rattle.table_walk.specs.Walk.{Finds}
use Rattle.table_walk.specs.declared.walk.Found.{Found}

pub same_memory : (m n : Lent) → m.base ≡ n.base → m.words ≡ n.words → m ≡ n
same_memory m n base words = λ i. record { base = base i; words = words i }

pub finds_with : (s z : Scheme) (m n : Lent) (root top address : ℕ) (f : Found) → s ≡ z → m ≡ n → root ≡ top
    → Finds s (lent_memory m) root address f → Finds z (lent_memory n) top address f
finds_with s z m n root top address f scheme memory at found =
    subst (λ r. Finds z (lent_memory n) r address f) at
    (subst (λ (k : Lent). Finds z (lent_memory k) root address f) memory (subst (λ (x : Scheme). Finds x (lent_memory m) root address f) scheme found))

pub ends_with : (s : Scheme) (m n : Lent) (root top address : ℕ) → m ≡ n → root ≡ top
    → EndsInAccessFault s (lent_memory m) (lent_extent m) root address → EndsInAccessFault s (lent_memory n) (lent_extent n) top address
ends_with s m n root top address memory at fault =
    subst (λ r. EndsInAccessFault s (lent_memory n) (lent_extent n) r address) at
    (subst (λ (k : Lent). EndsInAccessFault s (lent_memory k) (lent_extent k) root address) memory fault)
