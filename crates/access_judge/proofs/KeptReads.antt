-- Lemmas of what stays held: no fence since the moment of its word covers it, and each that could do so has a number.
use Rattle.std.proofs.Common.{◌≡◌, ◌⊎◌, ℕ, suc, ◌≤◌, true, false, List, ◌∷◌, length, refl, sym, ◌∙◌, subst, inl, inr, arith, Option, Some, None}
use Rattle.std.proofs.lemmas.Bool.{cases_eq, cases_Bool, eq-eqb, ne_eqb, eqb-true, false≢true}
use Rattle.sv39_entry.specs.declared.entry.Kind.TheVariants.{Pointer}
use Rattle.walk_rules.specs.Addresses.{is_canonical}
use Rattle.walk_rules.specs.Kinds.{kind_in}
use Rattle.walk_rules.specs.declared.extensions.Extensions.{Extensions}
use Rattle.access_history.specs.Held.{IsAddress, IsAtRoot, IsBelow, IsCovered, IsHeld, IsInSpace, IsKept, MayRead, Read, at_root, below, next, stays, updated}
use Rattle.access_history.specs.Held as held
use Rattle.access_history.specs.History.{First, IsPast, now, older}
use Rattle.access_history.specs.declared.event.Event.{Event}
use Rattle.access_history.specs.declared.event.Event.TheVariants.{Store, WriteSatp, WritePmp, Fence}
use Rattle.access_history.proofs.Covering.{no_pointer}
use Rattle.access_judge.specs.Search.{IsUnfenced, is_address_under, is_for, space_fence, space_of}
use Rattle.access_judge.proofs.FenceNumbers.{space_fenced}
use Rattle.access_judge.proofs.Moments.{not_full, past_length, past_trans, unfenced_past, unfenced_tail}

-- no event between two moments covers a read
abbrev pub IsUncovered : Extensions → First → ℕ → Read → List Event → List Event → Type 0
IsUncovered x f va r h past = (e : Event) (k : List Event) → IsPast h (e ∷ k) → IsPast k past → IsCovered x f va e k r past → ⊥

pub kept_from : (x : Extensions) (f : First) (va : ℕ) (r : Read) (h past : List Event) → IsPast h past → IsUncovered x f va r h past
    → IsKept x f va r h past
kept_from x f va r h past now free = held.now
kept_from x f va r h past (older {h = before} {e = e} was) free =
    next (kept_from x f va r before past was (λ d k at since. free d k (older at) since)) (free e before now was)

pub kept_past : (x : Extensions) (f : First) (va : ℕ) (r : Read) (h past : List Event) → IsKept x f va r h past → IsPast h past
kept_past x f va r h past held.now = now
kept_past x f va r h past (next {h = before} kept free) = older (kept_past x f va r before past kept)

pub kept_uncovered : (x : Extensions) (f : First) (va : ℕ) (r : Read) (h past : List Event) → IsKept x f va r h past → IsUncovered x f va r h past
kept_uncovered x f va r h past held.now e k at since covered =
    let low = past_length h (e ∷ k) at in
    let long = past_length k h since in
    absurd (omega (arith, low, long))
kept_uncovered x f va r h past (next {h = before} kept free) e k now since covered = free covered
kept_uncovered x f va r h past (next {h = before} kept free) e k (older at) since covered =
    kept_uncovered x f va r before past kept e k at since covered

-- what is held was read at a moment, and is kept since
pub held_kept : (x : Extensions) (f : First) (va : ℕ) (h past : List Event) (r : Read) → IsHeld x f va h r past → IsKept x f va r h past
held_kept x f va h past r (at_root may root) = may.kept
held_kept x f va h past r (below above may is) = may.kept
held_kept x f va h past r (stays {h = before} was free) = next (held_kept x f va before past r was) free
held_kept x f va h past r (updated was is) = held.now

-- what is held at a moment, and kept up to a later one, is held then
pub held_later : (x : Extensions) (f : First) (va : ℕ) (h k past : List Event) (r : Read) → IsHeld x f va k r past → IsPast h k → IsPast k past
    → IsUncovered x f va r h past → IsHeld x f va h r past
held_later x f va h k past r is now since free = is
held_later x f va h k past r is (older {h = before} {e = e} was) since free =
    stays (held_later x f va before k past r is was since (λ d g at from. free d g (older at) from))
    (free e before now (past_trans before k past was since))

-- ---- what fences cover

pub address_under : (top : Option ℕ) (va : ℕ) → is_address_under top va ≡ true → (t : ℕ) → top ≡ Some t → is_canonical t va ≡ true
address_under None va is t same = cc
address_under (Some u) va is t same = let equal : u ≡ t = cc in subst (λ (n : ℕ). is_canonical n va ≡ true) equal is

pub under_address : (top : Option ℕ) (va : ℕ) → ((t : ℕ) → top ≡ Some t → is_canonical t va ≡ true) → is_address_under top va ≡ true
under_address None va is = refl
under_address (Some u) va is = is u refl

pub in_space : (s : Option ℕ) (r : Read) → is_for s (space_of r) ≡ true → IsInSpace s r
in_space None r is = tt
in_space (Some s) r is = elim (cases_Bool r.global) [
  | inl global ↦ absurd (false≢true (rw global at is))
  | inr plain ↦ (sym (eqb-true s r.asid (rw plain at is)), plain)
]

pub space_in : (s : Option ℕ) (r : Read) → IsInSpace s r → is_for s (space_of r) ≡ true
space_in None r is = refl
space_in (Some s) r is = rw is.1 (eq-eqb s r.asid (sym is.0))

-- a PTE that is kept and not global had no fence of its ASID
pub space_kept : (x : Extensions) (f : First) (va : ℕ) (r : Read) (h past : List Event) → IsUnfenced h → r.global ≡ false → IsKept x f va r h past
    → space_fence h r.asid ≡ space_fence past r.asid
space_kept x f va r h past un plain held.now = refl
space_kept x f va r h past un plain (next {h = before} {e = Store p i w} kept free) =
    space_kept x f va r before past (unfenced_tail _ before un) plain kept
space_kept x f va r h past un plain (next {h = before} {e = WriteSatp w} kept free) =
    space_kept x f va r before past (unfenced_tail _ before un) plain kept
space_kept x f va r h past un plain (next {h = before} {e = WritePmp n e} kept free) =
    space_kept x f va r before past (unfenced_tail _ before un) plain kept
space_kept x f va r h past un plain (next {h = before} {e = Fence (Some a) s} kept free) =
    space_kept x f va r before past (unfenced_tail _ before un) plain kept
space_kept x f va r h past un plain (next {h = before} {e = Fence None None} kept free) = absurd (not_full before un)
space_kept x f va r h past un plain (next {h = before} {e = Fence None (Some s)} kept free) = elim (cases_eq s r.asid) [
  | inl same ↦ absurd (free ((sym same, plain), tt))
  | inr other ↦ rw (ne_eqb s r.asid other) (space_kept x f va r before past (unfenced_tail _ before un) plain kept)
]

-- a pointer that is global, or of whose ASID no fence came, is kept
pub pointer_uncovered : (x : Extensions) (f : First) (va : ℕ) (r : Read) (h past : List Event) → IsUnfenced h → kind_in x r.level r.word ≡ Pointer
    → (r.global ≡ true) ⊎ (space_fence h r.asid ≤ length past) → IsUncovered x f va r h past
pointer_uncovered x f va r h past un pointer why (Store p i w) k at since covered = covered
pointer_uncovered x f va r h past un pointer why (WriteSatp w) k at since covered = covered
pointer_uncovered x f va r h past un pointer why (WritePmp n e) k at since covered = covered
pointer_uncovered x f va r h past un pointer why (Fence (Some a) s) k at since covered = no_pointer x f va k past a s r covered pointer
pointer_uncovered x f va r h past un pointer why (Fence None None) k at since covered = not_full k (unfenced_past h (Fence None None ∷ k) un at)
pointer_uncovered x f va r h past un pointer why (Fence None (Some s)) k at since covered = elim why [
  | inl global ↦ false≢true (sym covered.0.1 ∙ global)
  | inr low ↦
      let here = subst (λ (n : ℕ). suc (length k) ≤ space_fence h n) (sym covered.0.0) (space_fenced h k s at) in
      let long = past_length k past since in
      absurd (omega (arith, here, long, low))
]
