-- Definitions: the kind of a page table entry (PTE) at a level, under the extensions that a hart has (RISC-V Privileged
-- Architecture 20211203, "the standard", 4.3.2, steps 3 and 4; chapter 5, Svnapot; chapter 6, Svpbmt); its memory type; and
-- which of the schemes for A and D may fault or update (4.3.1).
use Rattle.std.specs.Prelude.{ℕ, Bool, true, false, ◌/◌, ◌%◌, ◌^◌, ◌==◌, ◌&&◌, ◌||◌, not, Option, None, Some, if◌then◌else◌}
use Rattle.sv39_entry.specs.Address.{has}
use Rattle.sv39_entry.specs.Word.{ppn}
use Rattle.sv39_entry.specs.declared.entry.Kind.{Kind}
use Rattle.sv39_entry.specs.declared.entry.Kind.TheVariants.{Invalid, Leaf, Pointer}
use Rattle.walk_rules.specs.declared.extensions.AdScheme.{AdScheme}
use Rattle.walk_rules.specs.declared.extensions.AdScheme.TheVariants.{Svade, Svadu, Either}
use Rattle.walk_rules.specs.declared.extensions.Extensions.{Extensions}
use Rattle.walk_rules.specs.declared.memory_type.MemoryType.{MemoryType}
use Rattle.walk_rules.specs.declared.memory_type.MemoryType.TheVariants.{Pma, Nc, Io}

-- PBMT, bits 62 and 61
abbrev pub pbmt : ℕ → ℕ
pbmt w = w / 2 ^ 61 % 4

-- the memory type of PBMT: 0 is that of the physical address (PMA), 1 non-cacheable (NC), 2 I/O; 3 is reserved (chapter 6)
abbrev pub memory_type : ℕ → Option MemoryType
memory_type w = if pbmt w == 0 then Some Pma else (if pbmt w == 1 then Some Nc else (if pbmt w == 2 then Some Io else None))

-- bits that the hart reserves are set: one of 60 to 54; N, bit 63, without Svnapot; PBMT without Svpbmt, or PBMT = 3 (4.4.1,
-- chapters 5 and 6). So too for a number of more than 64 bits
abbrev pub has_reserved : Extensions → ℕ → Bool
has_reserved x w =
    not (w / 2 ^ 64 == 0) || not (w / 2 ^ 54 % 2 ^ 7 == 0) || (has w 63 && not x.svnapot) || (not (pbmt w == 0) && (not x.svpbmt || pbmt w == 3))

-- the leaf is a NAPOT one, of 64 KiB: N is set, at level 0, and PPN[0] ends in 1000 (chapter 5, table 5.1; other encodings are
-- reserved)
abbrev pub is_napot : ℕ → ℕ → Bool
is_napot level w = has w 63 && level == 0 && ppn w % 16 == 8

-- the kind of a PTE with R or X: Leaf, but Invalid if N is set in a reserved encoding (chapter 5)
abbrev pub leaf_kind : ℕ → ℕ → Kind
leaf_kind level w = if has w 63 && not (is_napot level w) then Invalid else Leaf

-- bits that are reserved in a PTE without R, W and X are set: N, PBMT, U, A or D (4.3.1, chapters 5 and 6)
abbrev pub reserved_in_pointer : ℕ → Bool
reserved_in_pointer w = has w 63 || not (pbmt w == 0) || has w 4 || has w 6 || has w 7

-- the kind of a PTE without R, W and X: Pointer, but Invalid with reserved bits, and at level 0, below which there is no table (step 4)
abbrev pub pointer_kind : ℕ → ℕ → Kind
pointer_kind level w = if reserved_in_pointer w || level == 0 then Invalid else Pointer

-- the kind of a PTE at a level (steps 3 and 4). Invalid: V = 0; or R = 0 and W = 1; or reserved bits
abbrev pub kind_in : Extensions → ℕ → ℕ → Kind
kind_in x level w =
    if not (has w 0) || (has w 2 && not (has w 1)) || has_reserved x w then Invalid
    else (if has w 1 || has w 3 then leaf_kind level w else pointer_kind level w)

-- what a hart may do with a leaf whose A is clear, or whose D is clear at a store: raise a page fault (Svade), set the bits in
-- memory (Svadu), or either (4.3.1, 4.3.2, step 7)
abbrev pub may_fault : AdScheme → Bool
may_fault Svade = true
may_fault Svadu = false
may_fault Either = true

abbrev pub may_update : AdScheme → Bool
may_update Svade = false
may_update Svadu = true
may_update Either = true
