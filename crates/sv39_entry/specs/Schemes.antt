-- Definitions for the schemes Sv39 and Sv48 (RISC-V Privileged Architecture, 4.4 and 4.5): the root's level, how many pages
-- there are, which addresses are canonical (by bits, `IsCanonical`, and as a test), MODE of satp, MAXVA, the pages of
-- trampoline and trapframe. Laws: facts that both schemes have (`IsScheme`); low addresses are canonical; the page of an
-- address.
use Rattle.std.specs.Prelude.{◌≡◌, ℕ, Bool, ◌+◌, ◌-◌, ◌*◌, ◌/◌, ◌%◌, ◌^◌, ◌<◌, ◌≤◌, ◌==◌, ◌||◌, true, refl}
use Rattle.std.proofs.Common.{arith, subst, sym}
use Rattle.std.proofs.lemmas.Bool.{eq-eqb}
use Rattle.sv39_entry.specs.Address.{has}
use Rattle.sv39_entry.specs.declared.scheme.Scheme.{Scheme}
use Rattle.sv39_entry.specs.declared.scheme.Scheme.TheVariants.{Sv39, Sv48}

-- the level of the root's entries; those of the last tables have level 0
abbrev pub top_level : Scheme → ℕ
top_level Sv39 = 2
top_level Sv48 = 3

-- how many pages the indices of all levels distinguish
abbrev pub page_limit : Scheme → ℕ
page_limit Sv39 = 2 ^ 27
page_limit Sv48 = 2 ^ 36

-- a page number without the bits above its indices
abbrev pub low_page : Scheme → ℕ → ℕ
low_page s page = page % page_limit s

-- the highest bit of the indices, in an address
abbrev pub sign_bit : Scheme → ℕ
sign_bit Sv39 = 38
sign_bit Sv48 = 47

-- an address is canonical: each bit above the sign bit equals it
abbrev pub IsCanonical : Scheme → ℕ → Type 0
IsCanonical s a = (i : ℕ) → sign_bit s ≤ i → i < 64 → has a i ≡ has a (sign_bit s)

-- `IsCanonical` as a test: bits 63 to 38, or 63 to 47, are all clear or all set
abbrev pub is_canonical : Scheme → ℕ → Bool
is_canonical Sv39 a = a / 2 ^ 38 == 0 || a / 2 ^ 38 == 2 ^ 26 - 1
is_canonical Sv48 a = a / 2 ^ 47 == 0 || a / 2 ^ 47 == 2 ^ 17 - 1

-- MODE of satp
abbrev pub mode_of : Scheme → ℕ
mode_of Sv39 = 8
mode_of Sv48 = 9

-- xv6's MAXVA: every address of a process is below it. The two pages just below it are the trapframe's and the trampoline's
abbrev pub maxva : Scheme → ℕ
maxva Sv39 = 2 ^ 38
maxva Sv48 = 2 ^ 47

abbrev pub trampoline_page : Scheme → ℕ
trampoline_page Sv39 = 2 ^ 26 - 1
trampoline_page Sv48 = 2 ^ 35 - 1

abbrev pub trapframe_page : Scheme → ℕ
trapframe_page Sv39 = 2 ^ 26 - 2
trapframe_page Sv48 = 2 ^ 35 - 2

-- facts that both schemes have, for proofs that do not distinguish them
pub record IsScheme (s : Scheme) : Type 0 where
  pub some_levels : 2 ≤ top_level s
  pub few_levels : top_level s ≤ 3
  -- the trampoline's page is the next after the trapframe's, and the last of the lower half of the pages
  pub side_by_side : trampoline_page s ≡ trapframe_page s + 1
  pub half : 2 * (trampoline_page s + 1) ≡ page_limit s
  pub addresses : maxva s ≡ 4096 * (trampoline_page s + 1)
  pub at_least : 2 ^ 27 ≤ page_limit s
  pub at_most : page_limit s ≤ 2 ^ 36
  -- both pages have the same table at each level
  pub last_tables : trampoline_page s / 2 ^ 9 ≡ trapframe_page s / 2 ^ 9
  pub next_tables : trampoline_page s / 2 ^ 18 ≡ trapframe_page s / 2 ^ 18
  pub upper_tables : trampoline_page s / 2 ^ 27 ≡ trapframe_page s / 2 ^ 27

pub of_scheme : (s : Scheme) → IsScheme s
of_scheme Sv39 = record {
  some_levels = omega arith;
  few_levels = omega arith;
  side_by_side = refl;
  half = refl;
  addresses = refl;
  at_least = omega arith;
  at_most = omega arith;
  last_tables = refl;
  next_tables = refl;
  upper_tables = refl;
}
of_scheme Sv48 = record {
  some_levels = omega arith;
  few_levels = omega arith;
  side_by_side = refl;
  half = refl;
  addresses = refl;
  at_least = omega arith;
  at_most = omega arith;
  last_tables = refl;
  next_tables = refl;
  upper_tables = refl;
}

-- a page below the limit is its own low page
pub low_is : (s : Scheme) (page : ℕ) → page < page_limit s → low_page s page ≡ page
low_is Sv39 page low = omega (arith, low)
low_is Sv48 page low = omega (arith, low)

-- addresses up to the trampoline's page are canonical
pub low_canonical : (s : Scheme) (a : ℕ) → a / 4096 ≤ trampoline_page s → is_canonical s a ≡ true
low_canonical Sv39 a low = rw (eq-eqb (a / 2 ^ 38) 0 (omega (arith, low))) refl
low_canonical Sv48 a low = rw (eq-eqb (a / 2 ^ 47) 0 (omega (arith, low))) refl

-- ---- the page of an address

-- the page whose first byte has the address
pub page_at : (page address place : ℕ) → page ≡ address / 4096 → address ≡ 4096 * place → page ≡ place
page_at page address place is at = omega (arith, is, at)

-- the page of TRAPFRAME under a scheme, if the address is that of an equal scheme
pub edge_at : {x y : Scheme} → x ≡ y → (page address : ℕ) → page ≡ address / 4096 → address ≡ 4096 * trapframe_page y → page ≡ trapframe_page x
edge_at {x} {y} same page address is at = subst (λ z. page ≡ trapframe_page z) (sym same) (page_at page address _ is at)
