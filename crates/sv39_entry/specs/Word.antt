-- Definitions for the bits of a page table entry (RISC-V Privileged Architecture, 4.4.1): V 0, R 1, W 2, X 3, U 4, G 5, A 6,
-- D 7, RSW 9-8, PPN 53-10; RSW bit 8 marks copy-on-write (own choice). The kind of an entry (invalid, pointer, leaf), which
-- accesses its flags permit, and the words of leaves and pointers that the kernel writes, with the fields they have
-- (`IsLeafOf`, `IsPointerTo`).
use Rattle.std.specs.Prelude.{◌≡◌, ℕ, Bool, true, false, ◌+◌, bit_and, ◌*◌, ◌/◌, ◌%◌, ◌^◌, ◌==◌, ◌&&◌, ◌||◌, not, if◌then◌else◌, cond}
use Rattle.sv39_entry.specs.Address.{has}
use Rattle.sv39_entry.specs.Frame.{ppn_of}
use Rattle.sv39_entry.specs.Rights.{reads, writes, executes}
use Rattle.sv39_entry.specs.declared.access.Access.{Access}
use Rattle.sv39_entry.specs.declared.access.Access.TheVariants.{Fetch, Load, Store}
use Rattle.sv39_entry.specs.declared.access.Mode.{Mode}
use Rattle.sv39_entry.specs.declared.access.Mode.TheVariants.{User, Supervisor}
use Rattle.sv39_entry.specs.declared.entry.Kind.{Kind}
use Rattle.sv39_entry.specs.declared.entry.Kind.TheVariants.{Invalid, Pointer, Leaf}

-- whether all bits of a flag are set in a word; the flag of bit i is 2 ^ i
abbrev pub has_flag : ℕ → ℕ → Bool
has_flag word flag = bit_and word flag == flag

-- the kind of an entry if bits 63 to 54 are clear: Invalid without V, or with W and no R (reserved); else Leaf with one of
-- R, W, X; else Invalid with one of U, A, D; else Pointer
abbrev pub flags_kind : ℕ → Kind
flags_kind w =
    if not (has w 0) || (has w 2 && not (has w 1)) then Invalid
    else (if has w 1 || has w 2 || has w 3 then Leaf
    else (if has w 4 || has w 6 || has w 7 then Invalid else Pointer))

-- the kind of any entry: Invalid if a bit of 63 to 54 is set
unfoldable pub kind_of : ℕ → Kind
kind_of w = if w / 2 ^ 54 == 0 then flags_kind w else Invalid

abbrev pub ppn : ℕ → ℕ
ppn w = w / 2 ^ 10 % 2 ^ 44

-- whether a mode may use a leaf: user mode one with U, supervisor mode one without (SUM is 0)
abbrev pub mode_allows : Mode → ℕ → Bool
mode_allows User w = has w 4
mode_allows Supervisor w = not (has w 4)

-- whether a leaf has the right that an access needs (MXR is 0), and A, and for a store D: without these the access faults
-- (4.3.2, step 7; the standard permits it; own choice)
abbrev pub access_allowed : Access → ℕ → Bool
access_allowed Fetch w = has w 3 && has w 6
access_allowed Load w = has w 1 && has w 6
access_allowed Store w = has w 2 && has w 6 && has w 7

-- whether the flags of a leaf permit an access in a mode (the standard, 4.3.1 and 4.3.2, steps 5 and 7)
abbrev pub permits : Mode → Access → ℕ → Bool
permits mode access w = mode_allows mode w && access_allowed access w

abbrev pub if_set : Bool → ℕ → ℕ
if_set b n = cond b n 0

-- the low ten bits of a leaf: V and A always; W if the rights have it and the page is not copy-on-write; D if the page is
-- dirty and the rights have W; RSW bit 8 if the page is copy-on-write
abbrev pub leaf_flags : Bool → Bool → Bool → Bool → Bool → Bool → ℕ
leaf_flags read write execute user cow dirty =
    if_set cow 256 + if_set (if dirty then write else false) 128 + 64 + if_set user 16 + if_set execute 8 + if_set (if cow then false
    else write) 4 + if_set read 2 + 1

-- a leaf over a frame as the kernel writes it; G is never set
abbrev pub leaf_word : ℕ → ℕ → Bool → Bool → Bool → ℕ
leaf_word frame rights user cow dirty = ppn_of frame * 2 ^ 10 + leaf_flags (reads rights) (writes rights) (executes rights) user cow dirty

abbrev pub pointer_word : ℕ → ℕ
pointer_word frame = ppn_of frame * 2 ^ 10 + 1

-- w has the fields of the leaf that the kernel writes for a frame, with these rights and flags. It is a Leaf if the rights
-- have R, or X without W
pub record IsLeafOf (w frame rights : ℕ) (user is_cow dirty : Bool) : Type 0 where
  pub names : ppn w ≡ ppn_of frame
  pub valid : has w 0 ≡ true
  pub read : has w 1 ≡ reads rights
  pub write : has w 2 ≡ (writes rights && not is_cow)
  pub execute : has w 3 ≡ executes rights
  pub for_user : has w 4 ≡ user
  pub global : has w 5 ≡ false
  pub accessed : has w 6 ≡ true
  pub modified : has w 7 ≡ (dirty && writes rights)
  pub cow : has w 8 ≡ is_cow
  pub unused : has w 9 ≡ false
  pub readable : reads rights ≡ true → kind_of w ≡ Leaf
  pub executable : executes rights ≡ true → writes rights ≡ false → kind_of w ≡ Leaf

-- w is a pointer to the table in a frame
pub record IsPointerTo (w frame : ℕ) : Type 0 where
  pub names : ppn w ≡ ppn_of frame
  pub kind : kind_of w ≡ Pointer
