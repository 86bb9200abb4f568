-- `Hart`: its phase between user mode and kernel, its process's slot, the keys (page and ASID) of its buffer (its TLB) and
-- which slots are marked as stale. What each phase allows and which is next, the ASID in satp, the keys after a fill, and
-- which keys the fences of entry and return remove under each policy.
use Rattle.std.specs.Prelude.{ℕ, Bool, true, false, not, ◌+◌, nat_lt, ◌==◌, ◌&&◌, Option, None, Some, List, [], ◌∷◌, ◌++◌, drop, length}
use Rattle.std.specs.Prelude.{filter, slice_get, if◌then◌else◌}
use Rattle.sv39_entry.specs.Address.{page_of}
use Rattle.process_model.specs.declared.config.Policy.{Policy}
use Rattle.process_model.specs.declared.config.Policy.TheVariants.{Full, Asid}
use Rattle.process_model.specs.declared.phase.Phase.{Phase}
use Rattle.process_model.specs.declared.phase.Phase.TheVariants.{Idle, User, Enter0, Enter1, Enter2, Kernel, Leave1, Leave2}
use Rattle.process_model.specs.declared.limits.TheConstants.{BUFFER_SIZE}

-- what an access has to match in a buffer entry (the standard, 4.2.1): the page, and the address-space identifier (ASID)
-- under which the entry was filled
pub record Key : Type 0 where
  pub page : ℕ
  pub asid : ℕ

pub record Hart : Type 0 where
  pub phase : Phase
  -- the slot of its process, None if it has none
  pub slot : Option ℕ
  -- one for each buffer entry, in the order of filling
  pub keys : List Key
  -- whether a slot is marked: the buffer may have stale entries of its process
  pub stale : ℕ → Bool

abbrev pub idle_hart : Hart
idle_hart = record { phase = Idle; slot = None; keys = []; stale = λ s. false }

-- phases (the xv6 book, "Traps from user space")

-- the phase after the next instruction of kernel entry or return, each of which is: fence, write of satp, fence. None if no
-- such instruction is next
abbrev pub next_phase : Phase → Option Phase
next_phase Enter0 = Some Enter1
next_phase Enter1 = Some Enter2
next_phase Enter2 = Some Kernel
next_phase Kernel = Some Leave1
next_phase Leave1 = Some Leave2
next_phase Leave2 = Some User
next_phase _ = None

abbrev pub is_user : Phase → Bool
is_user User = true
is_user _ = false

abbrev pub is_kernel : Phase → Bool
is_kernel Kernel = true
is_kernel _ = false

abbrev pub may_switch : Phase → Bool
may_switch Idle = true
may_switch Kernel = true
may_switch _ = false

-- whether the hart runs the kernel's code in the trampoline page
abbrev pub in_trampoline : Phase → Bool
in_trampoline Enter0 = true
in_trampoline Enter1 = true
in_trampoline Enter2 = true
in_trampoline Leave1 = true
in_trampoline Leave2 = true
in_trampoline _ = false

-- whether satp names the process's root; else it names the kernel's
abbrev pub has_user_satp : Phase → Bool
has_user_satp User = true
has_user_satp Enter0 = true
has_user_satp Enter1 = true
has_user_satp Leave2 = true
has_user_satp _ = false

-- the phase of a hart after a switch to the process of a slot, or to none
abbrev pub phase_for : Option ℕ → Phase
phase_for None = Idle
phase_for (Some s) = Kernel

-- keys

-- the process in slot s has the ASID s + 1, the kernel 0
abbrev pub asid_of_slot : Option ℕ → ℕ
asid_of_slot None = 0
asid_of_slot (Some s) = s + 1

-- the ASID in satp
abbrev pub present_asid : Policy → Hart → ℕ
present_asid Full hart = 0
present_asid Asid hart = if has_user_satp hart.phase then asid_of_slot hart.slot else 0

-- the keys after a fill: the new key is last; a full buffer loses the first, its oldest
abbrev pub with_key : List Key → Key → List Key
with_key keys key = (if nat_lt (length keys) BUFFER_SIZE then keys else drop 1 keys) ++ key ∷ []

abbrev pub is_key : ℕ → ℕ → Option Key → Bool
is_key page asid None = false
is_key page asid (Some k) = k.page == page && k.asid == asid

-- no buffer entry is named; or the named one is there, for the address's page and the ASID in satp
abbrev pub entry_serves : Policy → Hart → ℕ → Option ℕ → Bool
entry_serves policy hart address None = true
entry_serves policy hart address (Some n) = is_key (page_of address) (present_asid policy hart) (slice_get hart.keys n)

-- fences

-- policy full: whether a fence is next. Each fence of entry and return empties the buffer
abbrev pub is_before_fence : Phase → Bool
is_before_fence Enter0 = true
is_before_fence Enter2 = true
is_before_fence Kernel = true
is_before_fence Leave2 = true
is_before_fence _ = false

abbrev pub emptied_if : Hart → Bool → Hart
emptied_if hart true = record hart { keys = [] }
emptied_if hart false = hart

-- policy asid: if slot s is marked on the hart, the last fence of the return removes the entries of its ASID, and the mark;
-- no other fence does anything
abbrev pub cleaned_if : Hart → ℕ → Bool → Hart
cleaned_if hart s true = record hart { keys = filter (λ k. not (k.asid == s + 1)) hart.keys; stale = λ n. not (n == s) && hart.stale n }
cleaned_if hart s false = hart

abbrev pub cleaned_for : Hart → Option ℕ → Hart
cleaned_for hart None = hart
cleaned_for hart (Some s) = cleaned_if hart s (hart.stale s)

abbrev pub cleaned_at : Hart → Phase → Hart
cleaned_at hart Leave2 = cleaned_for hart hart.slot
cleaned_at hart _ = hart

-- the hart with the buffer and marks that the next instruction of entry or return leaves; its phase is not yet changed
abbrev pub fenced : Policy → Hart → Hart
fenced Full hart = emptied_if hart (is_before_fence hart.phase)
fenced Asid hart = cleaned_at hart hart.phase
