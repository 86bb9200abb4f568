-- Definitions for Sv39, Sv48 and Sv57, told apart by the level of the root's PTEs, 2, 3 or 4 ("top"): the top that satp selects,
-- which virtual addresses are canonical, and the physical address that a leaf gives (RISC-V Privileged Architecture 20211203,
-- 4.1.11; 4.4.1, 4.5.1, 4.6.1; 4.3.2, step 8; chapter 5, Svnapot).
use Rattle.std.specs.Prelude.{◌≡◌, ℕ, Bool, ◌+◌, ◌-◌, ◌*◌, ◌/◌, ◌%◌, ◌^◌, ◌==◌, ◌<◌, ◌≤◌, ◌||◌, Option, None, Some, if◌then◌else◌}
use Rattle.sv39_entry.specs.Address.{has}
use Rattle.sv39_entry.specs.Satp.{mode}
use Rattle.sv39_entry.specs.Word.{ppn}
use Rattle.walk_rules.specs.Kinds.{is_napot}

-- the level of the root's PTEs by MODE of satp: 8 is Sv39, 9 Sv48, 10 Sv57 (4.1.11). None: Bare, 0, or a reserved MODE
abbrev pub top_of : ℕ → Option ℕ
top_of satp = if mode satp == 8 then Some 2 else (if mode satp == 9 then Some 3 else (if mode satp == 10 then Some 4 else None))

-- the highest bit of the table indices in an address: 38, 47 or 56
abbrev pub sign_bit : ℕ → ℕ
sign_bit top = 20 + 9 * top

-- an address is canonical: each bit above the sign bit equals it
abbrev pub IsCanonical : ℕ → ℕ → Type 0
IsCanonical top va = (i : ℕ) → sign_bit top ≤ i → i < 64 → has va i ≡ has va (sign_bit top)

-- `IsCanonical` as a test: bits 63 to 38 (47, 56) are all clear or all set
abbrev pub is_canonical : ℕ → ℕ → Bool
is_canonical top va = va / 2 ^ sign_bit top == 0 || va / 2 ^ sign_bit top == 2 ^ (64 - sign_bit top) - 1

-- how many low bits of an address a PTE leaves alone: 16 if it is a NAPOT leaf, else those below VPN[level]
abbrev pub reach : ℕ → ℕ → ℕ
reach level w = if is_napot level w then 16 else 12 + 9 * level

-- the physical address that a leaf at a level gives to a virtual one: its PPN's, with the bits in its reach from the virtual
-- address. A NAPOT leaf's low 4 bits of PPN[0] are no part of the address (chapter 5)
abbrev pub leads_to : ℕ → ℕ → ℕ → ℕ
leads_to level w va = ppn w * 2 ^ 12 / 2 ^ reach level w * 2 ^ reach level w + va % 2 ^ reach level w
