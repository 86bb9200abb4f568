-- Lemma: the world's counter is above every copy number (names one copy of a page in memory) in the list of those that all
-- processes have.
use Rattle.std.proofs.Common.{◌≡◌, ℕ, zero, suc, ◌<◌, inl, inr, refl, List, [], ◌∷◌, Option, None, Some}
use Rattle.std.specs.Prelude.{slice_get}
use Rattle.process_model.specs.Process.{Process}
use Rattle.process_model.specs.Frames.{copies_of}
use Rattle.process_model.specs.World.{World, flat}
use Rattle.process_laws.specs.CopyNumbers.{HasNewCopies}
use Rattle.process_laws.proofs.SetSizes.{Among, among_parts}
use Rattle.process_laws.proofs.SlotSums.{all_copies}
use Rattle.process_laws.proofs.PageCopies.{each_below}

all_below : (c : ℕ) (slots : List (Option Process)) → ((s : ℕ) (p : Process) → flat (slice_get slots s) ≡ Some p → (q : ℕ) → Among q (copies_of p) → q < c)
    → (q : ℕ) → Among q (all_copies slots) → q < c
all_below c [] h q i = absurd i
all_below c (None ∷ slots) h q i = all_below c slots (λ s p e. h (suc s) p e) q i
all_below c (Some p ∷ slots) h q i = elim (among_parts q (copies_of p) (all_copies slots) i) [ inl j ↦ h zero p refl q j | inr j ↦ all_below c slots (λ s r e. h (suc s) r e) q j ]

pub copies_below : (w : World) → HasNewCopies w → (q : ℕ) → Among q (all_copies w.slots) → q < w.counter
copies_below w new = all_below w.counter w.slots (λ s p is. each_below w.counter p.settled.entries p.settled.sorted (λ k x f. new.below s k p x is f))
