-- Lemmas of the numbers of fences: the last one of an ASID, and the last one for an address.
use Rattle.std.proofs.Common.{◌≡◌, ℕ, suc, ◌≤◌, ◌/◌, ◌^◌, ◌==◌, ◌&&◌, Bool, true, List, [], ◌∷◌, length, refl, inl, inr, arith, Option, Some, None}
use Rattle.std.proofs.lemmas.Bool.{cases_eq, cases_Bool, eq-eqb, ne_eqb, and_from, and_parts, eqb-true}
use Rattle.sv39_entry.specs.declared.address.Va.{Va}
use Rattle.walk_rules.specs.Addresses.{top_of}
use Rattle.access_history.specs.History.{IsPast, now, older, satp_at}
use Rattle.access_history.specs.declared.event.Event.{Event}
use Rattle.access_history.specs.declared.event.Event.TheVariants.{Store, WriteSatp, WritePmp, Fence}
use Rattle.access_judge.specs.Search.{address_fence, is_address_under, is_for, space_fence}
use Rattle.access_judge.proofs.Moments.{past_length}

pub space_fence_low : (h : List Event) (space : ℕ) → space_fence h space ≤ length h
space_fence_low [] space = omega arith
space_fence_low (Store p i w ∷ h) space = let up = space_fence_low h space in omega (arith, up)
space_fence_low (WriteSatp w ∷ h) space = let up = space_fence_low h space in omega (arith, up)
space_fence_low (WritePmp n e ∷ h) space = let up = space_fence_low h space in omega (arith, up)
space_fence_low (Fence (Some a) s ∷ h) space = let up = space_fence_low h space in omega (arith, up)
space_fence_low (Fence None None ∷ h) space = omega arith
space_fence_low (Fence None (Some s) ∷ h) space = let up = space_fence_low h space in elim (cases_eq s space) [
  | inl same ↦ rw (eq-eqb s space same) (omega arith)
  | inr other ↦ rw (ne_eqb s space other) (omega (arith, up))
]

-- the number does not fall
space_fence_more : (e : Event) (h : List Event) (space : ℕ) → space_fence h space ≤ space_fence (e ∷ h) space
space_fence_more (Store p i w) h space = omega arith
space_fence_more (WriteSatp w) h space = omega arith
space_fence_more (WritePmp n e) h space = omega arith
space_fence_more (Fence (Some a) s) h space = omega arith
space_fence_more (Fence None None) h space = let up = space_fence_low h space in omega (arith, up)
space_fence_more (Fence None (Some s)) h space = let up = space_fence_low h space in elim (cases_eq s space) [
  | inl same ↦ rw (eq-eqb s space same) (omega (arith, up))
  | inr other ↦ rw (ne_eqb s space other) (omega arith)
]

pub space_fence_past : (h k : List Event) (space : ℕ) → IsPast h k → space_fence k space ≤ space_fence h space
space_fence_past h k space now = omega arith
space_fence_past h k space (older {h = before} {e = e} was) =
    let up = space_fence_past before k space was in
    let more = space_fence_more e before space in
    omega (arith, up, more)

-- a fence of the ASID that happened has at most this number
pub space_fenced : (h k : List Event) (space : ℕ) → IsPast h (Fence None (Some space) ∷ k) → suc (length k) ≤ space_fence h space
space_fenced h k space was =
    let up = space_fence_past h (Fence None (Some space) ∷ k) space was in
    let here : space_fence (Fence None (Some space) ∷ k) space ≡ suc (length k) = rw (eq-eqb space space refl) refl in
    omega (arith, up, here)

-- ---- fences for an address

-- such a fence covers the address
abbrev pub Reaches : ℕ → List Event → ℕ → ℕ → Option ℕ → Va → Option ℕ → Type 0
Reaches satp h bits va space a s =
    (is_address_under (top_of (satp_at satp h)) a.0 ≡ true) × (a.0 / 2 ^ bits ≡ va / 2 ^ bits) × (is_for s space ≡ true)

abbrev address_test : ℕ → List Event → ℕ → ℕ → Option ℕ → Va → Option ℕ → Bool
address_test satp h bits va space a s =
    is_address_under (top_of (satp_at satp h)) a.0 && a.0 / 2 ^ bits == va / 2 ^ bits && is_for s space

reaches_test : (satp : ℕ) (h : List Event) (bits va : ℕ) (space : Option ℕ) (a : Va) (s : Option ℕ) → Reaches satp h bits va space a s
    → address_test satp h bits va space a s ≡ true
reaches_test satp h bits va space a s is =
    and_from (is_address_under (top_of (satp_at satp h)) a.0 && a.0 / 2 ^ bits == va / 2 ^ bits) (is_for s space)
    (and_from (is_address_under (top_of (satp_at satp h)) a.0) (a.0 / 2 ^ bits == va / 2 ^ bits) is.0 (eq-eqb (a.0 / 2 ^ bits) (va / 2 ^ bits) is.1)) is.2

test_reaches : (satp : ℕ) (h : List Event) (bits va : ℕ) (space : Option ℕ) (a : Va) (s : Option ℕ)
    → address_test satp h bits va space a s ≡ true → Reaches satp h bits va space a s
test_reaches satp h bits va space a s is =
    let parts = and_parts (is_address_under (top_of (satp_at satp h)) a.0 && a.0 / 2 ^ bits == va / 2 ^ bits) (is_for s space) is in
    let first = and_parts (is_address_under (top_of (satp_at satp h)) a.0) (a.0 / 2 ^ bits == va / 2 ^ bits) parts.0 in
    (first.0, eqb-true (a.0 / 2 ^ bits) (va / 2 ^ bits) first.1, parts.1)

-- a fence that covers the address, and happened, has at most this number
pub address_fenced : (satp : ℕ) (h k : List Event) (bits va : ℕ) (space : Option ℕ) (a : Va) (s : Option ℕ) → IsPast h (Fence (Some a) s ∷ k)
    → Reaches satp k bits va space a s → suc (length k) ≤ address_fence satp h bits va space
address_fenced satp h k bits va space a s now is = rw (reaches_test satp k bits va space a s is) (omega arith)
address_fenced satp h k bits va space a s (older {h = before} {e = Store p i w} was) is = address_fenced satp before k bits va space a s was is
address_fenced satp h k bits va space a s (older {h = before} {e = WriteSatp w} was) is = address_fenced satp before k bits va space a s was is
address_fenced satp h k bits va space a s (older {h = before} {e = WritePmp n e} was) is = address_fenced satp before k bits va space a s was is
address_fenced satp h k bits va space a s (older {h = before} {e = Fence None t} was) is = address_fenced satp before k bits va space a s was is
address_fenced satp h k bits va space a s (older {h = before} {e = Fence (Some b) t} was) is =
    let up = address_fenced satp before k bits va space a s was is in
    let low = past_length before (Fence (Some a) s ∷ k) was in
    elim (cases_Bool (address_test satp before bits va space b t)) [
      | inl passes ↦ rw passes (omega (arith, low))
      | inr fails ↦ rw fails (omega (arith, up))
    ]

-- the fence with a number covers the address
abbrev pub ReachedBy : ℕ → List Event → ℕ → ℕ → Option ℕ → ℕ → Type 0
ReachedBy satp h bits va space number =
    (a : Va) × (s : Option ℕ) × (k : List Event) × IsPast h (Fence (Some a) s ∷ k) × (number ≡ suc (length k)) × Reaches satp k bits va space a s

reached_later : (satp : ℕ) (e : Event) (h : List Event) (bits va : ℕ) (space : Option ℕ) (number : ℕ) → ReachedBy satp h bits va space number
    → ReachedBy satp (e ∷ h) bits va space number
reached_later satp e h bits va space number is = (is.0, is.1, is.2, older is.3, is.4, is.5)

pub address_fence_is : (satp : ℕ) (h : List Event) (bits va : ℕ) (space : Option ℕ) → 1 ≤ address_fence satp h bits va space
    → ReachedBy satp h bits va space (address_fence satp h bits va space)
address_fence_is satp [] bits va space some = absurd (omega (arith, some))
address_fence_is satp (Store p i w ∷ h) bits va space some = reached_later satp _ h bits va space _ (address_fence_is satp h bits va space some)
address_fence_is satp (WriteSatp w ∷ h) bits va space some = reached_later satp _ h bits va space _ (address_fence_is satp h bits va space some)
address_fence_is satp (WritePmp n e ∷ h) bits va space some = reached_later satp _ h bits va space _ (address_fence_is satp h bits va space some)
address_fence_is satp (Fence None s ∷ h) bits va space some = reached_later satp _ h bits va space _ (address_fence_is satp h bits va space some)
address_fence_is satp (Fence (Some a) s ∷ h) bits va space some = elim (cases_Bool (address_test satp h bits va space a s)) [
  | inl passes ↦ rw passes (a, s, h, now, refl, test_reaches satp h bits va space a s passes)
  | inr fails ↦ let low = rw fails at some in rw fails (reached_later satp _ h bits va space _ (address_fence_is satp h bits va space low))
]

pub address_fence_low : (satp : ℕ) (h : List Event) (bits va : ℕ) (space : Option ℕ) → address_fence satp h bits va space ≤ length h
address_fence_low satp h bits va space = elim (cases_eq (address_fence satp h bits va space) 0) [
  | inl none ↦ omega (arith, none)
  | inr some ↦
      let is = address_fence_is satp h bits va space (omega (arith, some)) in
      let low = past_length h (Fence (Some is.0) is.1 ∷ is.2) is.3 in
      let number = is.4 in
      omega (arith, low, number)
]
