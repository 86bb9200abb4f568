-- Laws of the number of frames that exec needs: if the image's segments are in order (`IsPlaced`), the count run by run of
-- pages (`exec_need`) is the number of the image's pages and `tables_needed` for them. Before that, the page numbers of a
-- run.
use Rattle.std.proofs.Common.{◌≡◌, ℕ, zero, suc, ◌+◌, ◌-◌, ◌/◌, ◌<◌, ◌≤◌, refl, ap, sym, ◌∙◌, arith, List, [], ◌∷◌, ◌++◌, map, length}
use Rattle.std.specs.Prelude.{flat_map}
use Rattle.std.proofs.lemmas.List.{append-nil, append_assoc, length-append, map-append}
use Rattle.std.proofs.lemmas.List.Concat.{flat_map-cons}
use Rattle.process_model.specs.Bytes.{numbers_from, pages_for}
use Rattle.process_model.specs.Frames.{exec_need, image_runs, kernel_run, PageRun, pages_in, runs_between, tables_by_sizes, tables_from}
use Rattle.process_model.specs.Frames.{tables_needed, tables_of_sizes, table_sizes}
use Rattle.process_model.specs.Images.{LoadSegment, end_of_loads, end_page}
use Rattle.process_model.specs.Insertion.{behind_more}
use Rattle.process_model.specs.ImageProcess.{load_pages, page_numbers, page_run}
use Rattle.process_model.specs.Order.{InRow, IsPlaced}
use Rattle.process_model.specs.PageMap.{count}
use Rattle.process_model.specs.declared.limits.TheConstants.{GUARD_PAGES, STACK_PAGES}
use Rattle.process_model.proofs.ValueSets.{AreCounted, div_near, div_up, first_last, last_first, none_counted, run_counted, same_count, values}
use Rattle.sv39_entry.specs.Address.{page_of}
use Rattle.sv39_entry.specs.Schemes.{of_scheme, trampoline_page, trapframe_page}
use Rattle.sv39_entry.specs.declared.scheme.Scheme.{Scheme}
use Rattle.sv39_entry.specs.declared.scheme.Scheme.TheVariants.{Sv39, Sv48}

-- runs of pages

pub run_numbers : (n first : ℕ) (bytes : List ℕ) → map (λ (e : ℕ × List ℕ). e.0) (page_run first bytes n) ≡ numbers_from first n
run_numbers zero first bytes = refl
run_numbers (suc n) first bytes = ap (λ ns. first ∷ ns) (run_numbers n (first + 1) _)

pub run_length : (n first : ℕ) (bytes : List ℕ) → length (page_run first bytes n) ≡ n
run_length zero first bytes = refl
run_length (suc n) first bytes = ap suc (run_length n (first + 1) _)

numbers_long : (n first : ℕ) → length (numbers_from first n) ≡ n
numbers_long zero first = refl
numbers_long (suc n) first = ap suc (numbers_long n (first + 1))

abbrev run_pages : PageRun → List ℕ
run_pages r = numbers_from r.first (r.end - r.first)

abbrev numbers_in : List PageRun → List ℕ
numbers_in [] = []
numbers_in (r ∷ rs) = run_pages r ++ numbers_in rs

-- each run has at least one page and begins at or above the end of the run before it, the first at or above page `low`
abbrev AreRising : ℕ → List PageRun → Type 0
AreRising low [] = Unit {0}
AreRising low (r ∷ rs) = (low ≤ r.first) × (r.first < r.end) × AreRising r.end rs

numbers_split : (rs ss : List PageRun) → numbers_in (rs ++ ss) ≡ numbers_in rs ++ numbers_in ss
numbers_split [] ss = refl
numbers_split (r ∷ rs) ss = ap (λ ns. run_pages r ++ ns) (numbers_split rs ss) ∙ sym (append_assoc (run_pages r) (numbers_in rs) (numbers_in ss))

pages_counted : (rs : List PageRun) → pages_in rs ≡ length (numbers_in rs)
pages_counted [] = refl
pages_counted (r ∷ rs) =
    let rest = pages_counted rs in
    let here = numbers_long (r.end - r.first) r.first in
    let both = length-append (run_pages r) (numbers_in rs) in
    omega (arith, rest, here, both)

-- tables that cover `size` pages each

module _ (size : ℕ) (some : 0 < size) where
  abbrev group : ℕ → ℕ
  group n = n / size

  groups : (rs : List PageRun) (low : ℕ) → AreRising low rs → (xs : List ℕ) (n bound : ℕ) → AreCounted group xs n bound → bound ≤ group low + 1
      → count (values group (xs ++ numbers_in rs)) ≡ n + tables_from size bound rs
  groups [] low up xs n bound are near = ap (λ ys. count (values group ys)) (append-nil xs) ∙ are.counted ∙ omega arith
  groups (r ∷ rs) low up xs n bound are near =
      let above : low ≤ r.first = up.0 in
      let long : r.first < r.end = up.1 in
      let here = div_up size some low r.first above in
      let far = div_up size some (r.end - 1) r.end (omega arith) in
      let more = run_counted group (div_up size some) (div_near size some) r.first (r.end - r.first) (r.end - 1) xs n bound are
      (omega (arith, near, here)) (omega (arith, long)) (omega (arith, long)) in
      let rest = groups rs r.end up.2 (xs ++ run_pages r) _ _ more (omega (arith, far)) in
      ap (λ ys. count (values group ys)) (sym (append_assoc xs (run_pages r) (numbers_in rs))) ∙ rest ∙ omega arith

  -- the kernel's two pages, first in `tables_needed`, may as well be last
  kernel_last : (z : Scheme) (ns : List ℕ)
      → count (values group (trampoline_page z ∷ trapframe_page z ∷ ns)) ≡ count (values group (ns ++ trapframe_page z ∷ trampoline_page z ∷ []))
  kernel_last z ns =
      let last = trampoline_page z in
      let next = trapframe_page z in
      let front : List ℕ = ns ++ next ∷ [] in
      same_count group (last ∷ next ∷ ns) (last ∷ front)
      (behind_more last (next ∷ ns) front (first_last ns next)) (behind_more last front (next ∷ ns) (last_first ns next))
      ∙ same_count group (last ∷ front) (front ++ last ∷ []) (first_last front last) (last_first front last)
      ∙ ap (λ ys. count (values group ys)) (append_assoc ns (next ∷ []) (last ∷ []))

  -- the pages of `kernel_run` are these two
  kernel_numbers : (z : Scheme) → numbers_in (kernel_run z ∷ []) ≡ trapframe_page z ∷ trampoline_page z ∷ []
  kernel_numbers Sv39 = refl
  kernel_numbers Sv48 = refl

  tables_counted : (z : Scheme) (rs : List PageRun) → AreRising 0 (rs ++ kernel_run z ∷ [])
      → tables_from size 0 (rs ++ kernel_run z ∷ []) ≡ count (values group (trampoline_page z ∷ trapframe_page z ∷ numbers_in rs))
  tables_counted z rs up =
      let all = groups (rs ++ kernel_run z ∷ []) 0 up [] 0 0 (none_counted group) (omega arith) in
      sym (kernel_last z (numbers_in rs)
      ∙ ap (λ ys. count (values group (numbers_in rs ++ ys))) (sym (kernel_numbers z))
      ∙ ap (λ ys. count (values group ys)) (sym (numbers_split rs (kernel_run z ∷ []))) ∙ all ∙ omega arith)

-- every size of the list is at least one page
abbrev AreSome : List ℕ → Type 0
AreSome [] = Unit {0}
AreSome (size ∷ sizes) = (0 < size) × AreSome sizes

all_some : (z : Scheme) → AreSome (table_sizes z)
all_some Sv39 = (omega arith, (omega arith, tt))
all_some Sv48 = (omega arith, (omega arith, (omega arith, tt)))

sizes_counted : (z : Scheme) (sizes : List ℕ) → AreSome sizes → (rs : List PageRun) → AreRising 0 (rs ++ kernel_run z ∷ [])
    → tables_by_sizes sizes (rs ++ kernel_run z ∷ []) ≡ tables_of_sizes sizes (trampoline_page z ∷ trapframe_page z ∷ numbers_in rs)
sizes_counted z [] some rs up = refl
sizes_counted z (size ∷ sizes) some rs up =
    let here = tables_counted size some.0 z rs up in
    let rest = sizes_counted z sizes some.1 rs up in
    omega (arith, here, rest)

-- the pages of an image

abbrev number_of : ℕ × List ℕ → ℕ
number_of e = e.0

-- the pages after the segments: guard and stack
abbrev last_pages : ℕ → List (ℕ × List ℕ)
last_pages end = page_run end [] (GUARD_PAGES + STACK_PAGES)

image_numbers : (end : ℕ) (ls : List LoadSegment) → InRow end ls
    → map number_of (flat_map load_pages ls ++ last_pages (end_of_loads end ls)) ≡ numbers_in (runs_between end ls)
image_numbers end [] row = let two : GUARD_PAGES + STACK_PAGES ≡ end + (GUARD_PAGES + STACK_PAGES) - end = omega arith in ap (λ k. numbers_from end k ++ []) two
image_numbers end (l ∷ ls) row =
    let many : pages_for l.memory_size ≡ end_page l - page_of l.address = let is = (row.0).end in omega (arith, is) in
    let rest : List (ℕ × List ℕ) = flat_map load_pages ls ++ last_pages (end_of_loads (end_page l) ls) in
    ap (λ es. map number_of (es ++ last_pages (end_of_loads (end_page l) ls))) (flat_map-cons load_pages l ls)
    ∙ ap (map number_of) (append_assoc (load_pages l) (flat_map load_pages ls) (last_pages (end_of_loads (end_page l) ls)))
    ∙ map-append number_of (load_pages l) rest
    ∙ ap (λ ns. ns ++ map number_of rest) (run_numbers (pages_for l.memory_size) (page_of l.address) l.bytes ∙ ap (numbers_from (page_of l.address)) many)
    ∙ ap (λ ns. numbers_from (page_of l.address) (end_page l - page_of l.address) ++ ns) (image_numbers (end_page l) ls row.1)

runs_rise : (z : Scheme) (end : ℕ) (ls : List LoadSegment) → InRow end ls
    → end_of_loads end ls + (GUARD_PAGES + STACK_PAGES) ≤ trapframe_page z → AreRising end (runs_between end ls ++ kernel_run z ∷ [])
runs_rise z end [] row room = let facts = of_scheme z in (omega arith, omega arith, (omega (arith, room), omega (arith, facts), tt))
runs_rise z end (l ∷ ls) row room =
    let at = row.0 in
    let some = at.some in
    let last = at.end in
    (at.above, omega (arith, some, last), runs_rise z (end_page l) ls row.1 room)

pub exec_need_is : (z : Scheme) (ls : List LoadSegment) → IsPlaced z ls → exec_need z ls ≡ length (page_numbers ls) + tables_needed z (page_numbers ls)
unfolding tables_needed
exec_need_is z ls is =
    let up : AreRising 0 (image_runs ls ++ kernel_run z ∷ []) = runs_rise z 0 ls is.row is.below in
    let same : page_numbers ls ≡ numbers_in (image_runs ls) = image_numbers 0 ls is.row in
    let pages = pages_counted (image_runs ls) in
    let all = sizes_counted z (table_sizes z) (all_some z) (image_runs ls) up in
    rw same (omega (arith, pages, all))
