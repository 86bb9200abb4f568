-- Counts of frames: the page tables that a set of pages needs; what start, exec, fork and making one page resident need; what
-- the kernel takes at boot, and which sizes can boot or be shared by threads; and of all processes, how many frames are free,
-- held and shared, and how many references to frames there are (`accounts`).
use Rattle.std.specs.Prelude.{ℕ, Bool, true, false, ◌+◌, ◌-◌, ◌/◌, ◌^◌, ◌==◌, max, nat_le, nat_lt, ◌&&◌, Option, None, Some, List, [], ◌∷◌}
use Rattle.std.specs.Prelude.{◌++◌, length, map, filter, filter_map, flat_map, sum_by, if◌then◌else◌, ◌≡◌, refl}
use Rattle.std.specs.List.{list_any}
use Rattle.process_model.specs.PageMap.{get, keys, numbers, count}
use Rattle.process_model.specs.Process.{Process, Page}
use Rattle.process_model.specs.Residence.{can_complete, parts_from, region_on}
use Rattle.process_model.specs.Images.{LoadSegment, end_page}
use Rattle.sv39_entry.specs.Address.{page_of}
use Rattle.sv39_entry.specs.Schemes.{trampoline_page, trapframe_page}
use Rattle.sv39_entry.specs.declared.access.Access.{Access}
use Rattle.sv39_entry.specs.declared.scheme.Scheme.{Scheme}
use Rattle.sv39_entry.specs.declared.scheme.Scheme.TheVariants.{Sv39, Sv48}
use Rattle.process_model.specs.declared.step.Report.{Report}
use Rattle.process_model.specs.declared.limits.TheConstants.{FEWEST_FRAMES, GUARD_PAGES, MOST_FRAMES, MOST_HARTS, MOST_SHARED_FRAMES, MOST_SLOTS, STACK_PAGES}

-- page tables

-- how many pages a table of each level below the root covers (the standard, 4.4 and 4.5), the uppermost level first
abbrev pub table_sizes : Scheme → List ℕ
table_sizes Sv39 = 2 ^ 18 ∷ 2 ^ 9 ∷ []
table_sizes Sv48 = 2 ^ 27 ∷ 2 ^ 18 ∷ 2 ^ 9 ∷ []

abbrev pub tables_of_sizes : List ℕ → List ℕ → ℕ
tables_of_sizes [] pages = 0
tables_of_sizes (size ∷ sizes) pages = count (numbers (map (λ n. n / size) pages)) + tables_of_sizes sizes pages

-- how many page tables a set of pages needs: the root, and for each size one for each aligned run of that many pages that
-- has one of them. The trampoline's page and the trapframe's are always among the pages
unfoldable pub tables_needed : Scheme → List ℕ → ℕ
tables_needed s pages = 1 + tables_of_sizes (table_sizes s) (trampoline_page s ∷ trapframe_page s ∷ pages)

-- the tables that cover `size` pages each, for a set of pages
abbrev pub sized_tables : Scheme → List ℕ → ℕ → ℕ
sized_tables s pages size = count (numbers (map (λ n. n / size) (trampoline_page s ∷ trapframe_page s ∷ pages)))

pub two_sizes : (s : Scheme) (pages : List ℕ) → s ≡ Sv39 → tables_needed s pages ≡ 1 + (sized_tables s pages (2 ^ 18) + (sized_tables s pages (2 ^ 9) + 0))
unfolding tables_needed
two_sizes s pages is = rw is refl

pub three_sizes : (s : Scheme) (pages : List ℕ) → s ≡ Sv48
    → tables_needed s pages ≡ 1 + (sized_tables s pages (2 ^ 27) + (sized_tables s pages (2 ^ 18) + (sized_tables s pages (2 ^ 9) + 0)))
unfolding tables_needed
three_sizes s pages is = rw is refl

-- the page tables of a process: tables stay until exec or the end, so they are those of all tabled pages
abbrev pub tables_of : Process → ℕ
tables_of p = tables_needed p.scheme (keys p.tabled)

-- how many frames a step needs

-- a page is settled: one frame for its bytes, and one for each page table that is missing
abbrev pub settle_need : Process → ℕ → ℕ
settle_need p page = 1 + (tables_needed p.scheme (page ∷ keys p.tabled) - tables_of p)

-- a page is taken over: one frame if it has the copy-on-write mark and another process has its copy number (`parts_from`), else
-- none
abbrev pub take_over_need : Bool → ℕ
take_over_need parts = if parts then 1 else 0

abbrev pub unless_through : Bool → Bool → ℕ
unless_through parts true = 0
unless_through parts false = take_over_need parts

abbrev pub resident_need_of : Bool → Process → Access → ℕ → Option Page → ℕ
resident_need_of shared p access page None = settle_need p page
resident_need_of shared p access page (Some s) = unless_through (parts_from shared s) (can_complete access (region_on p page) s)

-- a page is made resident for an access; `shared` says whether another process has its copy number
abbrev pub resident_need : Bool → Process → Access → ℕ → ℕ
resident_need shared p access page = resident_need_of shared p access page (get p.settled page)

-- fork: the child's trapframe and its page tables, and no page
abbrev pub fork_need : Process → ℕ
fork_need p = 1 + tables_needed p.scheme (keys p.settled)

-- a run of pages, from `first` up to, and without, `end`. The pages of an image are a few runs, so its need is counted run
-- by run, and no page is listed: it is the number of the pages and `tables_needed` for them (`exec_need_is`)
pub record PageRun : Type 0 where
  pub first : ℕ
  pub end : ℕ

-- the runs of an image in ascending order: the segments, and after them guard and stack
abbrev pub runs_between : ℕ → List LoadSegment → List PageRun
runs_between end [] = record { first = end; end = end + (GUARD_PAGES + STACK_PAGES) } ∷ []
runs_between end (l ∷ ls) = record { first = page_of l.address; end = end_page l } ∷ runs_between (end_page l) ls

abbrev pub image_runs : List LoadSegment → List PageRun
image_runs ls = runs_between 0 ls

abbrev pub pages_in : List PageRun → ℕ
pages_in [] = 0
pages_in (r ∷ rs) = r.end - r.first + pages_in rs

-- how many tables that cover `size` pages each the runs touch, without those below number `counted`: two runs may have one
-- in common
abbrev pub tables_from : ℕ → ℕ → List PageRun → ℕ
tables_from size counted [] = 0
tables_from size counted (r ∷ rs) = let end = (r.end - 1) / size + 1 in end - max (r.first / size) counted + tables_from size end rs

-- the trapframe's page and the trampoline's: a run above all others
abbrev pub kernel_run : Scheme → PageRun
kernel_run s = record { first = trapframe_page s; end = trampoline_page s + 1 }

abbrev pub tables_by_sizes : List ℕ → List PageRun → ℕ
tables_by_sizes [] runs = 0
tables_by_sizes (size ∷ sizes) runs = tables_from size 0 runs + tables_by_sizes sizes runs

abbrev pub tables_in : Scheme → List PageRun → ℕ
tables_in s rs = 1 + tables_by_sizes (table_sizes s) (rs ++ kernel_run s ∷ [])

-- exec: the pages of the image, guard and stack among them, and their page tables
abbrev pub exec_need : Scheme → List LoadSegment → ℕ
exec_need s ls = let runs = image_runs ls in pages_in runs + tables_in s runs

-- start: what exec needs, and the trapframe
abbrev pub start_need : Scheme → List LoadSegment → ℕ
start_need s ls = 1 + exec_need s ls

-- what boot takes: the trampoline page, five page tables of the kernel (six if the direct map is longer than two megabytes),
-- and a stack for each slot (own choice: no device is mapped). Sv48 has two tables more, one above those of the trampoline
-- and one above those of the direct map
abbrev pub first_frames : Scheme → ℕ
first_frames Sv39 = 6
first_frames Sv48 = 8

abbrev pub kernel_frames : Scheme → ℕ → ℕ → ℕ
kernel_frames s frames slots = first_frames s + (if nat_le frames 512 then 0 else 1) + slots

abbrev pub can_boot : Scheme → ℕ → ℕ → ℕ → Bool
can_boot s harts frames slots =
    nat_le 1 harts && nat_le harts MOST_HARTS && nat_le FEWEST_FRAMES frames && nat_le frames MOST_FRAMES && nat_le 1 slots
    && nat_le slots MOST_SLOTS && nat_le (kernel_frames s frames slots) frames

-- whether threads can share these frames; processes on threads have Sv39
abbrev pub can_share : ℕ → ℕ → Bool
can_share frames slots =
    nat_le FEWEST_FRAMES frames && nat_le frames MOST_SHARED_FRAMES && nat_le 1 slots && nat_le slots MOST_SLOTS
    && nat_le (kernel_frames Sv39 frames slots) frames

-- accounts

abbrev pub live : List (Option Process) → List Process
live slots = filter_map (λ p. p) slots

abbrev pub copies_of : Process → List ℕ
copies_of p = map (λ e. (e.1).copy) p.settled.entries

-- the different copy numbers of processes: one frame for each
abbrev pub copies_in : List Process → List ℕ
copies_in ps = keys (numbers (flat_map copies_of ps))

abbrev pub has_copy : ℕ → Process → Bool
has_copy copy p = list_any (λ n. n == copy) (copies_of p)

-- whether two processes or more have the copy number
abbrev pub is_shared_copy : List Process → ℕ → Bool
is_shared_copy ps copy = nat_le 2 (length (filter (has_copy copy) ps))

-- how many frames only this process has: its trapframe and its page tables
abbrev pub own_frames : Process → ℕ
own_frames p = 1 + tables_of p

abbrev pub free_frames : Scheme → ℕ → List (Option Process) → ℕ
free_frames s frames slots =
    frames - kernel_frames s frames (length slots) - length (copies_in (live slots)) - sum_by own_frames (live slots)

-- how many references to frames a process has: the leaves of TRAMPOLINE and TRAPFRAME, the root and the pointers to its
-- other page tables, and the leaf of each settled page
abbrev pub references_of : Process → ℕ
references_of p = 2 + tables_of p + length p.settled.entries

-- how many frames are shared: one for each copy number that two processes or more have, and the trampoline's if there is a
-- process
abbrev pub shared_frames : List Process → ℕ
shared_frames ps = length (filter (is_shared_copy ps) (copies_in ps)) + (if nat_lt 0 (length ps) then 1 else 0)

abbrev pub accounts : Scheme → ℕ → List (Option Process) → Report
accounts s frames slots =
    let free = free_frames s frames slots in
    record {
      free = free;
      held = frames - free;
      shared = shared_frames (live slots);
      references = kernel_frames s frames (length slots) + sum_by references_of (live slots);
    }
