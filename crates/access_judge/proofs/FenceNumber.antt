-- How many bits fences leave alone, that the numbers of fences are moments, and that no fence covers a word that memory has now.
use Rattle.std.proofs.Common.{◌≡◌, ◌≤◌, ℕ, suc, zero, List, [], ◌∷◌, Bool, true, false, Option, None, Some, ◌&&◌, ◌==◌, ◌^◌, ◌/◌, ◌||◌, length, nat_lt, not, refl, ap, ◌∙◌, if◌then◌else◌, inl, inr, arith}
use Rattle.walk_rules.specs.Addresses.{top_of}
use Rattle.walk_rules.specs.Kinds.{kind_in}
use Rattle.walk_rules.specs.declared.extensions.Extensions.{Extensions}
use Rattle.sv39_entry.specs.declared.entry.Kind.TheVariants.{Leaf}
use Rattle.access_history.specs.Held.{page_bits}
use Rattle.access_history.specs.History.{First, satp_at}
use Rattle.access_history.specs.declared.event.Event.{Event}
use Rattle.access_history.specs.declared.event.Event.TheVariants.{Store, WriteSatp, WritePmp, Fence}
use Rattle.access_judge.specs.Log.{IsReach}
use Rattle.access_judge.specs.Search.{Found, address_fence, became_leaf, is_address_under, is_fenced, is_for, is_kind, space_fence, space_of}
use Rattle.access_judge.proofs.FenceNumbers.{space_fence_low}
use Rattle.std.proofs.lemmas.Bool.Decides.{leb_tells}

pub reaches : (level : ℕ) → level ≤ 4 → IsReach (page_bits level)
reaches zero low = inl refl
reaches (suc zero) low = inr (inl refl)
reaches (suc (suc zero)) low = inr (inr (inl refl))
reaches (suc (suc (suc zero))) low = inr (inr (inr (inl refl)))
reaches (suc (suc (suc (suc zero)))) low = inr (inr (inr (inr refl)))
reaches (suc (suc (suc (suc (suc n))))) low = absurd (omega arith)

most : (b : Bool) (m n k : ℕ) → m ≤ k → n ≤ k → (if b then m else n) ≤ k
most true m n k x y = x
most false m n k x y = y

pub fence_in_past : (satp : ℕ) (h : List Event) (bits va : ℕ) (space : Option ℕ) → address_fence satp h bits va space ≤ length h
fence_in_past satp [] bits va space = omega arith
fence_in_past satp (Store p i w ∷ h) bits va space = let up = fence_in_past satp h bits va space in omega arith
fence_in_past satp (WriteSatp w ∷ h) bits va space = let up = fence_in_past satp h bits va space in omega arith
fence_in_past satp (WritePmp n e ∷ h) bits va space = let up = fence_in_past satp h bits va space in omega arith
fence_in_past satp (Fence None s ∷ h) bits va space = let up = fence_in_past satp h bits va space in omega arith
fence_in_past satp (Fence (Some a) s ∷ h) bits va space =
    let up = fence_in_past satp h bits va space in
    most (is_address_under (top_of (satp_at satp h)) a.0 && a.0 / 2 ^ bits == va / 2 ^ bits && is_for s space) (suc (length h)) (address_fence satp h bits va space) (suc (length h)) (omega arith) (omega arith)

pub not_later : (m n : ℕ) → n ≤ m → nat_lt m n ≡ false
not_later m n low = elim (leb_tells (suc m) n) [ inl later ↦ absurd (omega (arith, later.1, low)) | inr other ↦ other.0 ]

neither : (a b g p : Bool) → a ≡ false → b ≡ false → ((a && p) || (g && b)) ≡ false
neither a b false p first second = ap (λ (t : Bool). (t && p) || false) first
neither a b true p first second = ap (λ (t : Bool). (t && p) || b) first ∙ second

pub not_fenced_now : (x : Extensions) (f : First) (h : List Event) (va : ℕ) (c : Found) → length h ≤ c.last → is_fenced x f h va c ≡ false
not_fenced_now x f h va c now =
    let number = address_fence f.satp h (page_bits c.read.level) va (space_of c.read) in
    let address = fence_in_past f.satp h (page_bits c.read.level) va (space_of c.read) in
    let space = space_fence_low h c.read.asid in
    neither (nat_lt c.last number) (nat_lt c.last (space_fence h c.read.asid)) (not c.read.global)
    (is_kind (kind_in x c.read.level c.read.word) Leaf || became_leaf x f h va c number)
    (not_later c.last number (omega (arith, now, address))) (not_later c.last (space_fence h c.read.asid) (omega (arith, now, space)))
