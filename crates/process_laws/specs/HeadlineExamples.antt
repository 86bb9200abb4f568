-- Worked examples of what the headline computes, which the checker computes too; the numbers were counted by hand. The process
-- that most rows speak of has an image of one text page (0), two data pages (1, 2), a guard (3) and a stack (4), so its heap
-- begins at 0x5000. A page number is an address without its last three hexadecimal digits; a page table covers 512 pages, the
-- tables above it 512 * 512.
use Rattle.std.specs.Prelude.{◌≡◌, ℕ, Bool, true, false, ◌+◌, ◌-◌, ◌*◌, Option, None, Some, List, [], ◌∷◌, ◌++◌, negsuc, refl, replicate}
use Rattle.process_laws.specs.CallReplies.{is_below_base, is_range, refusal_on}
use Rattle.process_laws.specs.FrameNeeds.{frames_for_child, frames_for_image, frames_for_page}
use Rattle.process_laws.specs.Words.{cause, keys_after, UserAccess}
use Rattle.process_model.specs.Frames.{tables_needed}
use Rattle.process_model.specs.Harts.{entry_serves, Hart, idle_hart, Key}
use Rattle.process_model.specs.ImageProcess.{page_numbers, process_of}
use Rattle.process_model.specs.Images.{LoadSegment}
use Rattle.process_model.specs.Mappings.{mapping_place}
use Rattle.process_model.specs.PageMap.{insert}
use Rattle.process_model.specs.Process.{Process, regions}
use Rattle.process_model.specs.Regions.{first_rule, private_mapping, Region, zeros}
use Rattle.process_model.specs.Residence.{child_of, marked}
use Rattle.process_model.specs.World.{booted, free, World}
use Rattle.process_model.specs.declared.config.Config.{Config}
use Rattle.process_model.specs.declared.config.Policy.TheVariants as policy
use Rattle.process_model.specs.declared.phase.Phase.{Phase}
use Rattle.process_model.specs.declared.phase.Phase.TheVariants.{Enter0, Enter1, Idle, Leave2, User}
use Rattle.process_model.specs.declared.reply.Refusal.TheVariants.{BadArgument, Impossible, NoEntry}
use Rattle.process_model.specs.declared.step.Step.TheVariants as step
use Rattle.process_model.specs.declared.limits.TheConstants.{BUFFER_SIZE}
use Rattle.sv39_entry.specs.declared.access.Access.{Access}
use Rattle.sv39_entry.specs.declared.access.Access.TheVariants.{Fetch, Load, Store}
use Rattle.sv39_entry.specs.declared.rule.Rule.{Rule}
use Rattle.sv39_entry.specs.declared.rule.Rule.TheVariants.{BeyondMax, GuardPage, KernelPage, Misaligned, NoExec, NoRead, NoRegion, NoWrite}
use Rattle.sv39_entry.specs.declared.scheme.Scheme.{Scheme}
use Rattle.sv39_entry.specs.declared.scheme.Scheme.TheVariants.{Sv39, Sv48}

-- a segment of so many pages, from page `first` on
abbrev segment_at : ℕ → ℕ → Bool → Bool → LoadSegment
segment_at first pages writes executes =
    record { address = 4096 * first; memory_size = 4096 * pages; file_size = 0; writes = writes; executes = executes; inside = true; bytes = [] }

-- text and data; nine pages of data; a page of data at 0 and one at 0x40000000
abbrev text_and_data : List LoadSegment
text_and_data = segment_at 0 1 false true ∷ segment_at 1 2 true false ∷ []

abbrev nine_pages : List LoadSegment
nine_pages = segment_at 0 9 true false ∷ []

abbrev far_apart : List LoadSegment
far_apart = segment_at 0 1 true false ∷ segment_at 0x40000 1 true false ∷ []

abbrev started : Scheme → Process
started s = process_of s 0 text_and_data

-- a memory of 64 frames with four slots, and the processes that live in it
abbrev config : Scheme → Config
config s = record { harts = 1; frames = 64; slots = 4; policy = policy.Full; scheme = s }

abbrev with_slots : List (Option Process) → World
with_slots slots = record (booted (config Sv39) []) { slots = slots }

abbrev alone : World
alone = with_slots (Some (started Sv39) ∷ None ∷ None ∷ None ∷ [])

abbrev forked : World
forked = with_slots (Some (marked (started Sv39)) ∷ Some (child_of (started Sv39)) ∷ None ∷ None ∷ [])

-- ---- an image: its pages, guard and stack after them; and their tables. The trampoline and the trapframe have tables of their
-- own, so with the root there are five tables if all other pages are in the first two megabytes

pages_of_an_image : page_numbers text_and_data ≡ 0 ∷ 1 ∷ 2 ∷ 3 ∷ 4 ∷ []
pages_of_an_image = refl

five_tables : tables_needed Sv39 (0 ∷ 1 ∷ 511 ∷ []) ≡ 5
unfolding tables_needed
five_tables = refl

-- page 512 is in the next two megabytes, page 0x40000 in the next gigabyte
a_table_more : tables_needed Sv39 (0 ∷ 512 ∷ []) ≡ 6
unfolding tables_needed
a_table_more = refl

two_tables_more : tables_needed Sv39 (0 ∷ 0x40000 ∷ []) ≡ 7
unfolding tables_needed
two_tables_more = refl

-- 5 pages and 5 tables; a start takes a trapframe too
exec_needs_10 : frames_for_image Sv39 text_and_data ≡ 10
unfolding tables_needed
exec_needs_10 = refl

-- 9 pages, guard, stack, 5 tables, a trapframe
start_needs_17 : 1 + frames_for_image Sv39 nine_pages ≡ 17
unfolding tables_needed
start_needs_17 = refl

-- Sv48 has a level more: a root, and 2 tables of each level below it
start_needs_19 : 1 + frames_for_image Sv48 nine_pages ≡ 19
unfolding tables_needed
start_needs_19 = refl

-- 2 pages, guard, stack, 7 tables, a trapframe
far_start_needs_12 : 1 + frames_for_image Sv39 far_apart ≡ 12
unfolding tables_needed
far_start_needs_12 = refl

-- ---- a fork: the child's trapframe and 5 tables, however many pages are settled in the first two megabytes

fork_needs_6 : frames_for_child (started Sv39) ≡ 6
unfolding tables_needed process_of
fork_needs_6 = refl

-- tables stay, but a child has none for a page that its parent released
fork_needs_6_still : frames_for_child (record (started Sv39) { tabled = insert (started Sv39).tabled 512 tt }) ≡ 6
unfolding tables_needed process_of
fork_needs_6_still = refl

-- ---- the service of a page: in memory and ready, none; on tables that are there, in the next two megabytes, in the next gigabyte

ready_needs_0 : frames_for_page alone 0 (started Sv39) Load 1 ≡ 0
unfolding tables_needed process_of
ready_needs_0 = refl

page_needs_1 : frames_for_page alone 0 (started Sv39) Load 5 ≡ 1
unfolding tables_needed process_of
page_needs_1 = refl

page_needs_2 : frames_for_page alone 0 (started Sv39) Load 512 ≡ 2
unfolding tables_needed process_of
page_needs_2 = refl

page_needs_3 : frames_for_page alone 0 (started Sv39) Load 0x40000 ≡ 3
unfolding tables_needed process_of
page_needs_3 = refl

-- under Sv48, in the next 512 gigabytes
page_needs_4 : frames_for_page alone 0 (started Sv48) Load 0x8000000 ≡ 4
unfolding tables_needed process_of
page_needs_4 = refl

-- after a fork: a store takes a frame while the other process has the page, a load none
shared_store_needs_1 : frames_for_page forked 0 (marked (started Sv39)) Store 1 ≡ 1
unfolding tables_needed process_of
shared_store_needs_1 = refl

shared_load_needs_0 : frames_for_page forked 0 (marked (started Sv39)) Load 1 ≡ 0
unfolding tables_needed process_of
shared_load_needs_0 = refl

lone_store_needs_0 : frames_for_page (with_slots (Some (marked (started Sv39)) ∷ None ∷ None ∷ None ∷ [])) 0 (marked (started Sv39)) Store 1 ≡ 0
unfolding tables_needed process_of
lone_store_needs_0 = refl

-- ---- free frames: 64, less 10 of the kernel (6, and a stack for each slot), less 11 of the process, less 6 of its child

free_at_boot : free (booted (config Sv39) []) ≡ 54
free_at_boot = refl

free_after_a_start : free alone ≡ 43
unfolding tables_needed process_of
free_after_a_start = refl

free_after_a_fork : free forked ≡ 37
unfolding tables_needed process_of
free_after_a_fork = refl

-- ---- where a mapping goes: below the trapframe, at page 0x3fffffe, and below mappings that are there; by law
-- `place_is_the_greatest`, the greatest page at which it `Fits`

mapping_of_two_pages : mapping_place (started Sv39) 2 ≡ Some 0x3fffffc
unfolding process_of
mapping_of_two_pages = refl

abbrev region_at_page : ℕ → ℕ → Region
region_at_page first pages = record { first = first; pages = pages; reads = false; writes = false; executes = true; kind = private_mapping; source = zeros }

-- an execute-only mapping of two pages
abbrev with_mapping : Process
with_mapping = record (started Sv39) { mappings = region_at_page 0x3fffffc 2 ∷ [] }

next_mapping : mapping_place with_mapping 3 ≡ Some 0x3fffff9
unfolding process_of
next_mapping = refl

mapping_in_a_gap : mapping_place (record (started Sv39) { mappings = region_at_page 0x3fffff8 1 ∷ region_at_page 0x3fffffc 2 ∷ [] }) 3 ≡ Some 0x3fffff9
unfolding process_of
mapping_in_a_gap = refl

-- ---- the rules

abbrev rule_of : Process → Access → ℕ → ℕ → Option Rule
rule_of p access address width = first_rule p.scheme (regions p) access address width

misaligned : rule_of (started Sv39) Load 0x1004 8 ≡ Some Misaligned
unfolding process_of
misaligned = refl

beyond_max : rule_of (started Sv39) Load 0x4000000000 1 ≡ Some BeyondMax
unfolding process_of
beyond_max = refl

trampoline : rule_of (started Sv39) Load 0x3ffffff000 1 ≡ Some KernelPage
unfolding process_of
trampoline = refl

trapframe : rule_of (started Sv39) Load 0x3fffffe000 1 ≡ Some KernelPage
unfolding process_of
trapframe = refl

guard_page : rule_of (started Sv39) Load 0x3000 1 ≡ Some GuardPage
unfolding process_of
guard_page = refl

empty_heap : rule_of (started Sv39) Load 0x5000 1 ≡ Some NoRegion
unfolding process_of
empty_heap = refl

grown_heap : rule_of (record (started Sv39) { size = 0x5001 }) Load 0x5fff 1 ≡ None
unfolding process_of
grown_heap = refl

execute_only : rule_of with_mapping Load 0x3fffffc000 1 ≡ Some NoRead
unfolding process_of
execute_only = refl

text_is_not_written : rule_of (started Sv39) Store 0x0 8 ≡ Some NoWrite
unfolding process_of
text_is_not_written = refl

data_is_not_executed : rule_of (started Sv39) Fetch 0x1000 4 ≡ Some NoExec
unfolding process_of
data_is_not_executed = refl

-- Sv48 ends at 2 ^ 47
within_max : rule_of (started Sv48) Load 0x4000000000 1 ≡ Some NoRegion
unfolding process_of
within_max = refl

-- ---- causes

abbrev access_of : Access → ℕ → ℕ → UserAccess
access_of access address width = record { access = access; address = address; width = width }

misaligned_causes : cause (access_of Fetch 0x2 4) ∷ cause (access_of Load 0x1004 8) ∷ cause (access_of Store 0x1001 2) ∷ [] ≡ 0 ∷ 4 ∷ 6 ∷ []
misaligned_causes = refl

page_fault_causes : cause (access_of Fetch 0x1000 4) ∷ cause (access_of Load 0x3000 1) ∷ cause (access_of Store 0x0 8) ∷ [] ≡ 12 ∷ 13 ∷ 15 ∷ []
page_fault_causes = refl

-- ---- refusals before a step's own: of an access on an idle hart, and of one by a buffer entry in user mode

abbrev in_user_mode : Hart
in_user_mode = record idle_hart { phase = User; slot = Some 0; keys = record { page = 1; asid = 0 } ∷ [] }

no_hart : refusal_on alone (step.Load 1 0x1000 8 None) None ≡ Some BadArgument
no_hart = refl

three_bytes : refusal_on alone (step.Load 0 0x1000 3 None) (Some idle_hart) ≡ Some BadArgument
three_bytes = refl

nobody_loads : refusal_on alone (step.Load 0 0x1000 8 (Some 0)) (Some idle_hart) ≡ Some (Impossible Idle)
nobody_loads = refl

entry_of_another_page : refusal_on alone (step.Load 0 0x2000 8 (Some 0)) (Some in_user_mode) ≡ Some NoEntry
entry_of_another_page = refl

no_second_entry : refusal_on alone (step.Evict 0 1) (Some in_user_mode) ≡ Some NoEntry
no_second_entry = refl

entry_serves_its_page : refusal_on alone (step.Load 0 0x1ff8 8 (Some 0)) (Some in_user_mode) ≡ None
entry_serves_its_page = refl

-- the process in slot 0 has ASID 1, so an entry of ASID 0 does not serve
entry_of_another_asid : entry_serves policy.Asid in_user_mode 0x1000 (Some 0) ≡ false
entry_of_another_asid = refl

-- ---- buffers: a fill adds the last entry, under the ASID that satp has, and a full buffer loses its first; what fences leave

abbrev key : ℕ → ℕ → Key
key page asid = record { page = page; asid = asid }

abbrev before_fence : Phase → Hart
before_fence phase = record in_user_mode { phase = phase; keys = key 1 0 ∷ key 1 1 ∷ key 2 2 ∷ []; stale = λ s. true }

fill_adds_the_last : keys_after policy.Full in_user_mode (step.Fill 0 0x2123) ≡ key 1 0 ∷ key 2 0 ∷ []
fill_adds_the_last = refl

fill_under_the_asid_of_slot_0 : keys_after policy.Asid in_user_mode (step.Fill 0 0x2123) ≡ key 1 0 ∷ key 2 1 ∷ []
fill_under_the_asid_of_slot_0 = refl

full_buffer_loses_its_first : keys_after policy.Full (record in_user_mode {
  keys = key 9 0
      ∷ replicate (BUFFER_SIZE - 1) (key 1 0);
}) (step.Fill 0 0x2000) ≡ replicate (BUFFER_SIZE - 1) (key 1 0) ++ key 2 0 ∷ []
full_buffer_loses_its_first = refl

eviction_closes_up : keys_after policy.Full (before_fence User) (step.Evict 0 1) ≡ key 1 0 ∷ key 2 2 ∷ []
eviction_closes_up = refl

full_fence : keys_after policy.Full (before_fence Enter0) (step.Next 0) ≡ []
full_fence = refl

write_of_satp : keys_after policy.Full (before_fence Enter1) (step.Next 0) ≡ key 1 0 ∷ key 1 1 ∷ key 2 2 ∷ []
write_of_satp = refl

last_fence_of_the_return : keys_after policy.Asid (before_fence Leave2) (step.Next 0) ≡ key 1 0 ∷ key 2 2 ∷ []
last_fence_of_the_return = refl

other_fences : keys_after policy.Asid (before_fence Enter0) (step.Next 0) ≡ key 1 0 ∷ key 1 1 ∷ key 2 2 ∷ []
other_fences = refl

-- ---- arguments of sbrk and munmap

below_the_base : is_below_base (record (started Sv39) { size = 0x6000 }) (negsuc 0x1fff) ≡ true
unfolding process_of
below_the_base = refl

at_the_base : is_below_base (record (started Sv39) { size = 0x6000 }) (negsuc 0xfff) ≡ false
unfolding process_of
at_the_base = refl

inside_a_page : is_range 0x3fffffc010 4096 ≡ false
inside_a_page = refl

no_length : is_range 0x3fffffc000 0 ≡ false
no_length = refl
