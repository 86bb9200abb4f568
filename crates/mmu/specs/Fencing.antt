-- The numbers of the last fences: of an ASID (`of_space`), and of an address with one rs2 (`of_key`); and until when a fence of an ASID was the last
-- one (`of_end`).
use Rattle.std.specs.Prelude.{ℕ, Bool, suc, ◌==◌, ◌&&◌, ◌^◌, ◌/◌, ◌≤◌, max, nat_eq, Option, None, Some, List, [], ◌∷◌, length, if◌then◌else◌}
use Rattle.std.specs.HashMap.{get, spare}
use Rattle.std.specs.Option.{option_eq, unwrap_or}
use Rattle.walk_rules.specs.Addresses.{top_of}
use Rattle.access_history.specs.History.{satp_at}
use Rattle.access_history.specs.declared.event.Event.{Event}
use Rattle.access_history.specs.declared.event.Event.TheVariants.{Store, WriteSatp, WritePmp, Fence}
use Rattle.access_judge.specs.Search.{epoch_end, is_address_under, space_fence}
use Rattle.mmu.specs.declared.fences.Fences.{Fences}

abbrev pub Key : Type 0
Key = ℕ × ℕ × Option ℕ

abbrev pub key_eq : Key → Key → Bool
key_eq x y = (nat_eq x.0 y.0 && nat_eq x.1 y.1) && option_eq nat_eq x.2 y.2

abbrev pub of_space : Fences → ℕ → ℕ
of_space f space = unwrap_or (get nat_eq f.spaces space) 0

abbrev pub end_eq : ℕ × ℕ → ℕ × ℕ → Bool
end_eq x y = nat_eq x.0 y.0 && nat_eq x.1 y.1

abbrev pub of_end : Fences → ℕ → ℕ → Option ℕ
of_end f space number = get end_eq f.ends (space, number)

abbrev pub of_key : Fences → ℕ → ℕ → Option ℕ → ℕ
of_key f bits page space = unwrap_or (get key_eq f.addresses (bits, page, space)) 0

-- there is room for one more fence
abbrev pub HasRoom : Fences → Type 0
HasRoom f = (1 ≤ spare f.spaces) × (1 ≤ spare f.ends) × (5 ≤ spare f.addresses)

-- a fence with a valid address whose bits above `bits` are a page, and with one rs2
abbrev pub is_exact : ℕ → List Event → ℕ → ℕ → Option ℕ → ℕ → Option ℕ → Bool
is_exact satp h bits page space va s = is_address_under (top_of (satp_at satp h)) va && va / 2 ^ bits == page && option_eq nat_eq s space

-- the number of the last such fence; 0 if there is none
abbrev pub exact_fence : ℕ → List Event → ℕ → ℕ → Option ℕ → ℕ
exact_fence satp [] bits page space = 0
exact_fence satp (Store p i w ∷ h) bits page space = exact_fence satp h bits page space
exact_fence satp (WriteSatp w ∷ h) bits page space = exact_fence satp h bits page space
exact_fence satp (WritePmp n e ∷ h) bits page space = exact_fence satp h bits page space
exact_fence satp (Fence None s ∷ h) bits page space = exact_fence satp h bits page space
exact_fence satp (Fence (Some a) s ∷ h) bits page space =
    if is_exact satp h bits page space a.0 s then suc (length h) else exact_fence satp h bits page space

-- the later of two fences, with rs2 = x0 and with an ASID; None: with rs2 = x0 alone
abbrev pub with_none : (Option ℕ → ℕ) → Option ℕ → ℕ
with_none numbers None = numbers None
with_none numbers (Some s) = max (numbers None) (numbers (Some s))

-- the last moment at which a fence of an ASID was the last one, if it is no longer
abbrev pub ended : List Event → ℕ → ℕ → Option ℕ
ended h space epoch = if space_fence h space == epoch then None else Some (epoch_end h space epoch)
