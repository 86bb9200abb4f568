-- Which page table entries (PTEs) a hart may hold for a virtual address at a moment (`IsHeld`): each that a walk may have read, if no
-- fence has covered it since (`IsCovered`); a leaf also with A and D as the hart sets them (`IsUpdate`). No event says when a hart caches: this is
-- what any hart may hold. (The standard, 4.2.1, SFENCE.VMA; 4.3.1, global mappings; 4.3.2, the walk; 3.7.2, PMP and caches; chapter 5, Svnapot.)
use Rattle.std.specs.Prelude.{◌≡◌, ◌⊎◌, ℕ, Bool, true, false, suc, not, ◌+◌, ◌*◌, ◌/◌, ◌^◌, ◌==◌, ◌||◌, ◌&&◌, Option, None, Some, List, ◌∷◌}
use Rattle.std.specs.List.{Contains}
use Rattle.sv39_entry.specs.Address.{has, page_of, vpn}
use Rattle.sv39_entry.specs.Satp.{asid, root_ppn}
use Rattle.sv39_entry.specs.Word.{ppn}
use Rattle.sv39_entry.specs.declared.access.Access.TheVariants as access
use Rattle.sv39_entry.specs.declared.address.Va.{Va}
use Rattle.sv39_entry.specs.declared.entry.Kind.TheVariants.{Invalid, Leaf, Pointer}
use Rattle.walk_rules.specs.Addresses.{is_canonical, top_of}
use Rattle.walk_rules.specs.Kinds.{is_napot, kind_in, may_update}
use Rattle.walk_rules.specs.Pmp.{pmp_permits}
use Rattle.walk_rules.specs.Rights.{with_ad}
use Rattle.walk_rules.specs.declared.extensions.Extensions.{Extensions}
use Rattle.walk_rules.specs.declared.pmp.PmpEntry.{PmpEntry}
use Rattle.walk_rules.specs.declared.status.Privilege.TheVariants as privilege
use Rattle.access_history.specs.History.{First, IsPast, memory_at, pmps_at, satp_at}
use Rattle.access_history.specs.declared.event.Event.{Event}
use Rattle.access_history.specs.declared.event.Event.TheVariants.{Store, WriteSatp, WritePmp, Fence}

-- a virtual address is valid under satp: canonical, or any under Bare
abbrev pub IsAddress : ℕ → ℕ → Type 0
IsAddress satp va = (top : ℕ) → top_of satp ≡ Some top → is_canonical top va ≡ true

-- a PTE that a walk read: its level, the physical page number of its table, in which it stands at the index of the address, its word, and the
-- ASID under which it was read. It is global if it has V and G, or a pointer on the way to it has (4.3.1)
pub record Read : Type 0 where
  pub level : ℕ
  pub table : ℕ
  pub word : ℕ
  pub asid : ℕ
  pub global : Bool

abbrev pub read_of : ℕ → ℕ → ℕ → ℕ → Bool → Read
read_of level table word space global = record { level = level; table = table; word = word; asid = space; global = global }

-- ---- what a fence covers (4.2.1)

-- rs2 = x0 covers each address space; with an ASID, a fence covers what is of that ASID and not global
abbrev pub IsInSpace : Option ℕ → Read → Type 0
IsInSpace None r = Unit {0}
IsInSpace (Some space) r = (r.asid ≡ space) × (r.global ≡ false)

-- after a moment, and up to another, a store made the word in a read's place a leaf
abbrev pub BecameLeaf : Extensions → First → ℕ → List Event → List Event → Read → Type 0
BecameLeaf x f va h past r =
    (e : Event) × (k : List Event) × (w : ℕ) × IsPast h (e ∷ k) × IsPast k past
    × (memory_at f.memory (e ∷ k) r.table (vpn (page_of va) r.level) ≡ Some w) × (kind_in x r.level w ≡ Leaf)

-- how many low bits of an address a fence for it leaves alone: those of a page or a superpage of the PTE's level. Of a NAPOT leaf too: each of its
-- 16 pages may be cached alone, and has a PTE of its own, so only fences of all pages cover all (chapter 5)
abbrev pub page_bits : ℕ → ℕ
page_bits level = 12 + 9 * level

-- rs1 = x0 covers PTEs of each address and level. With a valid address, a fence covers a leaf for its page or superpage; and an invalid PTE for it, in whose
-- place a leaf was stored before the fence (own choice: 4.2.1 speaks of stores to leaf PTEs). It never covers a pointer
abbrev pub IsInReach : Extensions → First → ℕ → Option Va → List Event → Read → List Event → Type 0
IsInReach x f va None h r past = Unit {0}
IsInReach x f va (Some a) h r past =
    IsAddress (satp_at f.satp h) a.0 × (a.0 / 2 ^ page_bits r.level ≡ va / 2 ^ page_bits r.level)
    × ((kind_in x r.level r.word ≡ Leaf) ⊎ ((kind_in x r.level r.word ≡ Invalid) × BecameLeaf x f va h past r))

-- an event at a moment covers a read of a value of an earlier one: it orders that read before it and removes it from caches. Only fences do
abbrev pub IsCovered : Extensions → First → ℕ → Event → List Event → Read → List Event → Type 0
IsCovered x f va (Store p i w) h r past = ⊥
IsCovered x f va (WriteSatp w) h r past = ⊥
IsCovered x f va (WritePmp n e) h r past = ⊥
IsCovered x f va (Fence a s) h r past = IsInSpace s r × IsInReach x f va a h r past

-- no event after one moment, up to another, covers a read of it
pub data IsKept (x : Extensions) (f : First) (va : ℕ) (r : Read) : List Event → List Event → Type 0 where
  now : {h : List Event} → IsKept x f va r h h
  next : {h past : List Event} {e : Event} → IsKept x f va r h past → (IsCovered x f va e h r past → ⊥) → IsKept x f va r (e ∷ h) past

-- ---- what a walk may read

-- at a moment a read's place had its word. Or, at level 0, the word is a NAPOT leaf that the place of one of the 16 PTEs of its group had:
-- one of them may be cached for all (chapter 5)
abbrev pub HadWord : Extensions → First → ℕ → List Event → Read → Type 0
HadWord x f va past r =
    (memory_at f.memory past r.table (vpn (page_of va) r.level) ≡ Some r.word)
    ⊎ ((x.svnapot ≡ true) × (r.level ≡ 0) × (is_napot 0 r.word ≡ true) × (kind_in x 0 r.word ≡ Leaf)
    × ((index : ℕ) × (index / 16 ≡ vpn (page_of va) 0 / 16) × (memory_at f.memory past r.table index ≡ Some r.word)))

-- PMP permits to read the PTE at an index of a table, an 8-byte load of S-mode, by the entries as they were at a moment since the last fence
-- of everything (3.7.1, 3.7.2)
abbrev pub MayPassRead : First → List Event → ℕ → ℕ → Type 0
MayPassRead f h table index =
    (es : List PmpEntry) × Contains (pmps_at f.pmp h) es × (pmp_permits es privilege.Supervisor access.Load (table * 4096 + index * 8) 8 ≡ true)

-- a walk that is at a read's table at a moment may read its word, of that moment or a past one: implicit reads are not ordered after stores but
-- by fences (4.2.1, 4.1.11)
pub record MayRead (x : Extensions) (f : First) (va : ℕ) (h : List Event) (r : Read) (past : List Event) : Type 0 where
  pub had : HadWord x f va past r
  pub kept : IsKept x f va r h past
  pub allowed : MayPassRead f h r.table (vpn (page_of va) r.level)

-- a fence of each address, of this ASID or of all, ends the walks of an ASID
abbrev pub EndsWalks : Event → ℕ → Type 0
EndsWalks (Store p i w) space = ⊥
EndsWalks (WriteSatp w) space = ⊥
EndsWalks (WritePmp n e) space = ⊥
EndsWalks (Fence (Some a) s) space = ⊥
EndsWalks (Fence None None) space = Unit {0}
EndsWalks (Fence None (Some s)) space = s ≡ space

-- a walk under a word of satp may be at its root: satp has it, or had it, and no fence has ended the walk since. A walk begins only while its satp is
-- active; that it ends before satp is written again, nothing asks (4.1.11)
pub data IsUnder (f : First) (satp : ℕ) : List Event → Type 0 where
  is_active : {h : List Event} → satp_at f.satp h ≡ satp → IsUnder f satp h
  goes_on : {h : List Event} {e : Event} → IsUnder f satp h → (EndsWalks e (asid satp) → ⊥) → IsUnder f satp (e ∷ h)

-- a PTE makes what it maps global: V and G
abbrev pub has_global : ℕ → Bool
has_global w = has w 0 && has w 5

-- a walk is at a read's table: the root of a satp that translates, under which the address is canonical
pub record IsAtRoot (f : First) (va : ℕ) (h : List Event) (r : Read) : Type 0 where
  pub satp : ℕ
  pub under : IsUnder f satp h
  pub highest : top_of satp ≡ Some r.level
  pub canonical : is_canonical r.level va ≡ true
  pub root : r.table ≡ root_ppn satp
  pub space : r.asid ≡ asid satp
  pub global : r.global ≡ has_global r.word

-- the walk that read a pointer goes on at a read's table, whatever satp is by then. Another walk that goes by it reads the same
pub record IsBelow (x : Extensions) (above r : Read) : Type 0 where
  pub pointer : kind_in x above.level above.word ≡ Pointer
  pub next_level : above.level ≡ suc r.level
  pub table : r.table ≡ ppn above.word
  pub space : r.asid ≡ above.asid
  pub global : r.global ≡ (above.global || has_global r.word)

-- ---- what a hart makes of a leaf that it holds

-- a word is another one, or that with A, or with A and D set
abbrev pub is_with_ad : ℕ → ℕ → Bool
is_with_ad w v = v == w || v == with_ad access.Load w || v == with_ad access.Store w

-- a store of one word over another sets A or D in a leaf that had a third word, and has as much of A and D since, or more
abbrev pub sets_ad : ℕ → ℕ → ℕ → Bool
sets_ad w was new = is_with_ad w was && is_with_ad was new && not (was == new)

-- where the PTE of a read may stand in its table: at the index of the address or, of a NAPOT leaf, at any of the 16 of its group (chapter 5)
abbrev pub IsPlace : Extensions → ℕ → Read → ℕ → Type 0
IsPlace x va r index =
    (index ≡ vpn (page_of va) r.level)
    ⊎ ((x.svnapot ≡ true) × (r.level ≡ 0) × (is_napot 0 r.word ≡ true) × (index / 16 ≡ vpn (page_of va) 0 / 16))

-- an event at a moment may be the hart's own update of A and D by a leaf that it holds, to a word (4.3.2, step 7)
pub record IsUpdate (x : Extensions) (f : First) (va : ℕ) (e : Event) (h : List Event) (r : Read) (w : ℕ) : Type 0 where
  pub scheme : may_update x.ad ≡ true
  pub leaf : kind_in x r.level r.word ≡ Leaf
  pub index : ℕ
  pub place : IsPlace x va r index
  pub stores : e ≡ Store r.table index w
  pub was : ℕ
  pub before : memory_at f.memory h r.table index ≡ Some was
  pub sets : sets_ad r.word was w ≡ true

abbrev pub with_word : Read → ℕ → Read
with_word r w = read_of r.level r.table w r.asid r.global

-- at the first moment a hart may hold a read, of a word of the second: a walk reads it, from the root or by a pointer that the hart may hold at
-- that time; or the hart held it before, and no event since covers it; or the last event sets A or D in a leaf that it held
pub data IsHeld (x : Extensions) (f : First) (va : ℕ) : List Event → Read → List Event → Type 0 where
  at_root : {h past : List Event} {r : Read} → MayRead x f va h r past → IsAtRoot f va h r → IsHeld x f va h r past
  below : {h past since : List Event} {above r : Read} → IsHeld x f va h above since → MayRead x f va h r past → IsBelow x above r
      → IsHeld x f va h r past
  stays : {h past : List Event} {r : Read} {e : Event} → IsHeld x f va h r past → (IsCovered x f va e h r past → ⊥) → IsHeld x f va (e ∷ h) r past
  updated : {h past : List Event} {r : Read} {e : Event} {w : ℕ} → IsHeld x f va h r past → IsUpdate x f va e h r w
      → IsHeld x f va (e ∷ h) (with_word r w) (e ∷ h)
