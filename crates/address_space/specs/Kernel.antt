-- Predicates of the kernel's page table (the xv6 book, "Kernel address space"; no device is mapped): to which frame and by
-- which rights a page is mapped (frames at their own addresses, the trampoline, a stack for each slot of the process table);
-- the outcome of a kernel access; which tables this needs, and how many; what the seat holds; and the whole table,
-- `IsKernelTable`. No leaf is for the user. With one law.
use Rattle.std.specs.Prelude.{◌≡◌, ℕ, zero, suc, Bool, true, false, ◌+◌, ◌-◌, ◌*◌, ◌/◌, ◌%◌, ◌^◌, ◌<◌, ◌≤◌, ◌==◌, ◌&&◌, ◌||◌, nat_le}
use Rattle.std.specs.Prelude.{nat_lt, if◌then◌else◌, Option, None, Some, option_map, is_some, List, [], ◌∷◌, length, slice_get}
use Rattle.std.proofs.Common.{subst}
use Rattle.std.proofs.lemmas.Bool.{ne_eqb}
use Rattle.std.specs.FinMap.{FinMap, get}
use Rattle.std.specs.Ordering.{nat_cmp}
use Rattle.frame_store.specs.View.{View, IsSole, references}
use Rattle.sv39_entry.specs.Address.{page_of, page_offset}
use Rattle.sv39_entry.specs.Causes.{page_fault_cause}
use Rattle.sv39_entry.specs.Frame.{ppn_of}
use Rattle.sv39_entry.specs.Rights.{grants}
use Rattle.sv39_entry.specs.Word.{IsLeafOf, leaf_word}
use Rattle.sv39_entry.specs.declared.access.Access.{Access}
use Rattle.sv39_entry.specs.Schemes.{page_limit, top_level, trampoline_page}
use Rattle.sv39_entry.specs.declared.scheme.Scheme.{Scheme}
use Rattle.table_walk.specs.Tables.{HasTables, Tables, leaf_node, node, root_node}
use Rattle.table_walk.specs.declared.walk.Walk.{Walk}
use Rattle.table_walk.specs.declared.walk.Walk.TheVariants as walk
use Rattle.address_space.specs.Agreement.{code_rights, data_rights}
use Rattle.process_model.specs.declared.limits.TheConstants.{MOST_FRAMES, MOST_SLOTS}

-- what is mapped

-- the rights with which a frame is mapped at its own address: frame 0 has the trampoline's code, and no other frame may be
-- executed
abbrev pub frame_rights : ℕ → ℕ
frame_rights frame = if frame == 0 then code_rights else data_rights

-- the page whose address is that of frame 0
abbrev pub first_direct : ℕ
first_direct = ppn_of 0

-- the page of a slot's stack, KSTACK in xv6: the page above it is not mapped
abbrev pub stack_page : Scheme → ℕ → ℕ
stack_page z slot = trampoline_page z - (slot + 1) * 2

-- the frame that a page is mapped to, and its rights, when the first `frames` frames and these stacks, by slot, are mapped;
-- None if the page is not mapped
abbrev pub kernel_page : Scheme → ℕ → List ℕ → ℕ → Option (ℕ × ℕ)
kernel_page z frames stacks page =
    if page == trampoline_page z then Some (0, code_rights)
    else (if nat_le first_direct page && nat_lt page (first_direct + frames) then Some (page - first_direct, frame_rights (page - first_direct))
    else (if nat_lt page (trampoline_page z)
    && ((trampoline_page z - page) % 2 == 0) then option_map (λ frame. (frame, data_rights)) (slice_get stacks ((trampoline_page z - page) / 2 - 1))
    else None))

-- the word of a page's leaf, by its frame and rights
abbrev pub kernel_leaf : Option (ℕ × ℕ) → Option ℕ
kernel_leaf None = None
kernel_leaf (Some p) = Some (leaf_word p.0 p.1 false false true)

-- the outcome of the kernel's access to an address, by the frame and rights of its page: the leaf if the rights grant the
-- access, else a page fault
abbrev pub walk_to : ℕ → Access → Option (ℕ × ℕ) → Walk
walk_to address access None = walk.PageFault (page_fault_cause access)
walk_to address access (Some p) =
    if grants p.1 access then walk.Leaf (leaf_word p.0 p.1 false false true) 0 (4096 * ppn_of p.0 + page_offset address)
    else walk.PageFault (page_fault_cause access)

-- the outcome of the kernel's access to an address when these frames and stacks are mapped
abbrev pub kernel_walk : Scheme → ℕ → List ℕ → ℕ → Access → Walk
kernel_walk z frames stacks address access = walk_to address access (kernel_page z frames stacks (page_of address))

-- what is held

-- the numbers of the tables on the way to a page, from level to level below the root, the lowest first: k of them, and in
-- `way` all
abbrev pub way_to : Scheme → ℕ → ℕ → List ℕ
way_to z page zero = []
way_to z page (suc k) = node z page (suc k) ∷ way_to z page k

abbrev pub way : Scheme → ℕ → List ℕ
way z page = way_to z page (top_level z)

abbrev pub is_among : ℕ → List ℕ → Bool
is_among k [] = false
is_among k (n ∷ ns) = k == n || is_among k ns

-- whether k is the number of a table that the trampoline, the stacks and the first `frames` frames need: the root; those on
-- the way to the trampoline, which the stacks share; if there are frames, those on the way to frame 0, which the frames of
-- its two megabytes share; and if there are more than 512, those on the way to frame 512
abbrev pub is_kernel_table : Scheme → ℕ → ℕ → Bool
is_kernel_table z frames k =
    k == root_node z || is_among k (way z (trampoline_page z))
    || (nat_lt 0 frames && is_among k (way z first_direct))
    || (nat_lt 512 frames && is_among k (way z (first_direct + 512)))

-- how many tables the direct map of the first `frames` frames adds: those on the way to frame 0, and above 512 frames one
-- more, since all others on the way to frame 512 are on the way to frame 0
abbrev pub direct_tables : Scheme → ℕ → ℕ
direct_tables z frames = if frames == 0 then 0 else (if nat_le frames 512 then top_level z else top_level z + 1)

-- the references that a seat has: one of frame 0, of each stack, as its sole holder, and of each table, and no other. No
-- frame is two of these
pub record HoldsKernel (v : View) (stacks : List ℕ) (tables : FinMap nat_cmp ℕ) : Type 0 where
  pub code : references v 0 ≡ 1
  pub stack : (slot f : ℕ) → slice_get stacks slot ≡ Some f → (references v f ≡ 1) × IsSole v f × (f < 2 ^ 16)
  pub table : (k f : ℕ) → get tables k ≡ Some f → references v f ≡ 1
  pub bare : (f : ℕ) → (f ≡ 0 → ⊥) → ((slot : ℕ) → slice_get stacks slot ≡ Some f → ⊥) → ((k : ℕ) → get tables k ≡ Some f → ⊥) → references v f ≡ 0
  pub stacks_apart : (i j f : ℕ) → slice_get stacks i ≡ Some f → slice_get stacks j ≡ Some f → i ≡ j
  pub stack_no_table : (slot k f : ℕ) → slice_get stacks slot ≡ Some f → get tables k ≡ Some f → ⊥
  pub stack_no_code : (slot f : ℕ) → slice_get stacks slot ≡ Some f → f ≡ 0 → ⊥
  pub table_no_code : (k f : ℕ) → get tables k ≡ Some f → f ≡ 0 → ⊥

-- the tables below the root map the trampoline, the first `frames` frames and these stacks, and nothing else, and the seat
-- holds the frames of these alone. Pages are numbered by their indices
pub record MapsKernel (z : Scheme) (v : View) (root frames : ℕ) (stacks : List ℕ) (t : Tables) : Type 0 where
  pub tables : HasTables z v root t
  pub leaves : (page : ℕ) → page < page_limit z → get t.leaves (leaf_node page) ≡ kernel_leaf (kernel_page z frames stacks page)
  pub numbers : (k : ℕ) → is_some (get t.tables k) ≡ is_kernel_table z frames k
  pub holds : HoldsKernel v stacks t.tables

-- the whole table of the kernel: of at most 1,024 frames and 64 slots, with a stack for each slot; no credit is left
pub record IsKernelTable (z : Scheme) (v : View) (root frames slots : ℕ) (stacks : List ℕ) (t : Tables) : Type 0 where
  pub maps : MapsKernel z v root frames stacks t
  pub stacked : length stacks ≡ slots
  pub few_frames : frames ≤ MOST_FRAMES
  pub few_slots : slots ≤ MOST_SLOTS
  pub credits : v.credits ≡ 0

-- the leaf for the kernel of a frame other than 0 is one for data
pub data_leaf : (x trapframe : ℕ) → (trapframe ≡ 0 → ⊥) → IsLeafOf x trapframe (frame_rights trapframe) false false true
    → IsLeafOf x trapframe data_rights false false true
data_leaf x trapframe apart made = subst (λ b. IsLeafOf x trapframe (if b then code_rights else data_rights) false false true) (ne_eqb trapframe 0 apart) made
