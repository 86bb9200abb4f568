-- Lemmas of what a fence covers: with an address no pointer, with an ASID nothing global; and of the walks that it ends.
use Rattle.std.proofs.Common.{◌≡◌, ◌≢◌, ℕ, sym, ◌∙◌, inl, inr, false, Option, None, Some, List, ◌∷◌}
use Rattle.sv39_entry.specs.Satp.{asid}
use Rattle.sv39_entry.specs.declared.address.Va.{Va}
use Rattle.sv39_entry.specs.declared.entry.Kind.TheVariants.{Invalid, Leaf, Pointer}
use Rattle.walk_rules.specs.Kinds.{kind_in}
use Rattle.walk_rules.specs.declared.extensions.Extensions.{Extensions}
use Rattle.access_history.specs.Held.{EndsWalks, IsCovered, IsUnder, Read, goes_on, is_active}
use Rattle.access_history.specs.History.{First, satp_at}
use Rattle.access_history.specs.declared.event.Event.{Event}
use Rattle.access_history.specs.declared.event.Event.TheVariants.{Fence}

pub no_pointer : (x : Extensions) (f : First) (va : ℕ) (h past : List Event) (a : Va) (s : Option ℕ) (r : Read)
    → IsCovered x f va (Fence (Some a) s) h r past → kind_in x r.level r.word ≢ Pointer
no_pointer x f va h past a s r covered pointer = elim covered.1.2 [
  | inl leaf ↦ let same : Leaf ≡ Pointer = sym leaf ∙ pointer in cc
  | inr other ↦ let same : Invalid ≡ Pointer = sym other.0 ∙ pointer in cc
]

pub not_global : (x : Extensions) (f : First) (va : ℕ) (h past : List Event) (a : Option Va) (s : ℕ) (r : Read)
    → IsCovered x f va (Fence a (Some s)) h r past → r.global ≡ false
not_global x f va h past a s r covered = covered.0.1

-- after a fence that ends walks of an ASID each is under satp as it is
pub under_after : (f : First) (satp : ℕ) (h : List Event) (s : Option ℕ) → EndsWalks (Fence None s) (asid satp) → IsUnder f satp (Fence None s ∷ h)
    → satp_at f.satp h ≡ satp
under_after f satp h s ends (is_active is) = is
under_after f satp h s ends (goes_on under free) = absurd (free ends)
