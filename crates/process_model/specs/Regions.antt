-- `Region`, a run of pages of a process with its rights, `RegionKind` and `Source` of bytes; which region holds a page; and
-- the first rule by which regions deny a kernel copy (`copy_rule`) or a user access (`first_rule`), with the cause of the
-- fault.
use Rattle.std.specs.Prelude.{ℕ, Bool, true, false, not, ◌+◌, ◌%◌, nat_le, nat_lt, ◌==◌, ◌||◌, ◌&&◌, Option, None, Some, is_none, List, [], ◌∷◌, if◌then◌else◌}
use Rattle.process_model.specs.Bytes.{first_true}
use Rattle.sv39_entry.specs.Address.{page_of}
use Rattle.sv39_entry.specs.Schemes.{maxva, trampoline_page, trapframe_page}
use Rattle.sv39_entry.specs.Causes.{misaligned_cause, page_fault_cause}
use Rattle.sv39_entry.specs.declared.access.Access.{Access}
use Rattle.sv39_entry.specs.declared.access.Access.TheVariants.{Fetch, Load, Store}
use Rattle.sv39_entry.specs.declared.rule.Rule.{Rule}
use Rattle.sv39_entry.specs.declared.scheme.Scheme.{Scheme}
use Rattle.sv39_entry.specs.declared.rule.Rule.TheVariants.{Misaligned, BeyondMax, KernelPage, GuardPage, NoRegion, NoRead, NoWrite, NoExec}

-- the kinds of regions (the xv6 book, "Process address space"; mappings are those of the mmap lab)
pub data RegionKind : Type 0 where
  segment : RegionKind
  guard : RegionKind
  stack : RegionKind
  heap : RegionKind
  shared_mapping : RegionKind
  private_mapping : RegionKind

-- where the bytes of its pages come from: zeros, the image, or a file from an offset on
pub data Source : Type 0 where
  zeros : Source
  image : Source
  file : ℕ → ℕ → Source

-- a run of pages with what it grants to the user
pub record Region : Type 0 where
  pub first : ℕ
  pub pages : ℕ
  pub reads : Bool
  pub writes : Bool
  pub executes : Bool
  pub kind : RegionKind
  pub source : Source

-- the page after the last one of a region
abbrev pub end_of : Region → ℕ
end_of r = r.first + r.pages

abbrev pub holds_page : Region → ℕ → Bool
holds_page r page = nat_le r.first page && nat_lt page (end_of r)

-- the region that holds a page, None if none does; no page is in two regions of a process
abbrev pub region_at : List Region → ℕ → Option Region
region_at [] page = None
region_at (r ∷ rs) page = if holds_page r page then Some r else region_at rs page

abbrev pub is_guard_kind : RegionKind → Bool
is_guard_kind guard = true
is_guard_kind _ = false

abbrev pub is_guard : Option Region → Bool
is_guard None = false
is_guard (Some r) = is_guard_kind r.kind

abbrev pub is_shared_kind : RegionKind → Bool
is_shared_kind shared_mapping = true
is_shared_kind _ = false

-- whether stores to the pages of a region are written back to its file: exactly if it is a shared mapping that may be
-- written
abbrev pub keeps_stores : Option Region → Bool
keeps_stores None = false
keeps_stores (Some r) = r.writes && is_shared_kind r.kind

-- whether the rights of a region fit a leaf (the standard, 4.3.1: a PTE without R, W and X is a pointer, and W without R is
-- reserved): a guard grants nothing (its leaf is the kernel's), any other region grants reading, or execution alone
abbrev pub makes_leaf : Region → Bool
makes_leaf r =
    (is_guard_kind r.kind && not r.reads && not r.writes && not r.executes) || (not (is_guard_kind r.kind) && (r.reads || (r.executes && not r.writes)))

-- whether the region lacks the right that the access needs; true if there is no region
abbrev pub lacks_right : Access → Option Region → Bool
lacks_right access None = true
lacks_right Fetch (Some r) = not r.executes
lacks_right Load (Some r) = not r.reads
lacks_right Store (Some r) = not r.writes

abbrev pub right_rule : Access → Rule
right_rule Fetch = NoExec
right_rule Load = NoRead
right_rule Store = NoWrite

-- the rules that may deny a kernel copy at an address, each with its test, in their order (own choice)
abbrev pub copy_tests : Scheme → List Region → Access → ℕ → List (Bool × Rule)
copy_tests s regions access address =
    let page = page_of address in
    let region = region_at regions page in
    (nat_le (maxva s) address, BeyondMax)
    ∷ (page == trampoline_page s || page == trapframe_page s, KernelPage)
    ∷ (is_guard region, GuardPage)
    ∷ (is_none region, NoRegion)
    ∷ (lacks_right access region, right_rule access)
    ∷ []

-- the first of these rules that denies the copy; None if it is granted
abbrev pub copy_rule : Scheme → List Region → Access → ℕ → Option Rule
copy_rule s regions access address = first_true (copy_tests s regions access address)

abbrev pub is_aligned : ℕ → ℕ → Bool
is_aligned address width = address % width == 0

-- the first rule that denies a user access: Misaligned, then the first that denies a copy; None if it is granted
abbrev pub first_rule : Scheme → List Region → Access → ℕ → ℕ → Option Rule
first_rule s regions access address width = if is_aligned address width then copy_rule s regions access address else Some Misaligned

-- the exception cause of a denied access: its misaligned cause if the rule is Misaligned (reported before any other, own
-- choice), else its page-fault cause
abbrev pub fault_cause : Access → Rule → ℕ
fault_cause access Misaligned = misaligned_cause access
fault_cause access _ = page_fault_cause access
