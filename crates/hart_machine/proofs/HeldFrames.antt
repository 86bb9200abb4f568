-- Lemmas: what each frame of a machine is referenced for (the kernel, TRAMPOLINE, trapframes and tables, or pages of one
-- copy number, which names one copy of a page in memory), and so that free, held and shared frames are the model's
-- (`report_is`).
use Rattle.std.proofs.Common.{◌≡◌, ℕ, suc, ◌+◌, ◌-◌, ◌<◌, ◌≤◌, ◌⊎◌, Bool, true, false, cond, inl, inr, refl, ap, sym, subst, ◌∙◌, arith, List, [], ◌∷◌, ◌++◌, length, slice_index, Option, Some, None}
use Rattle.std.specs.Prelude.{count_by, filter, flat_map, if◌then◌else◌, nat_le, nat_lt, slice_get, sum_by}
use Rattle.std.proofs.lemmas.Bool.{cases_eq, cases_lt}
use Rattle.std.proofs.lemmas.List.{length-append}
use Rattle.std.proofs.lemmas.List.Sums.{length-filter}
use Rattle.std.proofs.lemmas.Option.{same_Some}
use Rattle.address_space.specs.Agreement.{IsFrameOfPage}
use Rattle.frame_store.specs.Plain.{is_shared, is_zero, report_of, total_credits}
use Rattle.process_model.specs.Frames.{copies_in, copies_of, has_copy, is_shared_copy, kernel_frames, live, own_frames, shared_frames}
use Rattle.process_model.specs.PageMap.{get, numbers}
use Rattle.process_model.specs.Process.{Page, Process}
use Rattle.process_model.specs.World.{free, report, World}
use Rattle.process_model.specs.declared.step.Report.{Report}
use Rattle.table_walk.specs.Tables.{Tables}
use Rattle.hart_machine.specs.SlotProcesses.{IsSlotProcess}
use Rattle.hart_machine.specs.Worlds.{IsSlotContent, IsWorldButBuffers, seats_of}
use Rattle.hart_machine.specs.declared.machine.Machine.{Machine}
use Rattle.hart_machine.specs.declared.slot_process.SlotProcess.{SlotProcess}
use Rattle.hart_machine.proofs.AllReferences.{count_kinds, kernel, places, references_are, sized}
use Rattle.hart_machine.proofs.CountedLists.{count_is, count_opposite, none_past, one_past}
use Rattle.hart_machine.proofs.KeySets.{keys_distinct, numbers_have, numbers_have_only}
use Rattle.hart_machine.proofs.MatchedLists.{Matched, matched}
use Rattle.hart_machine.proofs.NumberLists.{Among, among_or, among_times, filter_distinct, filter_of, if_apart, in_filter, times, times_among, times_append, times_none, times_one}
use Rattle.hart_machine.proofs.PageCopies.{copy_of_page, copy_of_process, page_of_copy, process_of_copy}
use Rattle.hart_machine.proofs.PlaceFrames.{OfCopy}

-- tests of numbers

at_least : (n : ℕ) → nat_le 2 n ≡ true → 1 < n
at_least n e = grind arith

is_least : (n : ℕ) → 1 < n → nat_le 2 n ≡ true
is_least n e = grind arith

zero_or : (c : ℕ) → is_zero c ≡ true → nat_lt 0 c ≡ false
zero_or c e = grind arith

or_zero : (c : ℕ) → is_zero c ≡ false → nat_lt 0 c ≡ true
or_zero c e = grind arith

-- places

tenant_of : (o : Option (Option SlotProcess)) (q : Option (Option Process)) (t : Tables) (p : Process) → q ≡ Some (Some p) → IsSlotContent o q t → (x : SlotProcess) × IsSlotProcess x t p
tenant_of None None t p is place = absurd (cc)
tenant_of None (Some q) t p is place = absurd place
tenant_of (Some None) None t p is place = absurd place
tenant_of (Some None) (Some None) t p is place = absurd (let none : ◌≡◌ {A = Option (Option Process)} (Some None) (Some (Some p)) = is in cc)
tenant_of (Some None) (Some (Some q)) t p is place = absurd place
tenant_of (Some (Some x)) None t p is place = absurd place
tenant_of (Some (Some x)) (Some None) t p is place = absurd place
tenant_of (Some (Some x)) (Some (Some q)) t p is place = (x, subst (λ (z : Process). IsSlotProcess x t z) (same_Some _ _ (same_Some _ _ is)) place)

-- no seat of a process has credits
seats_credits : (items : List (Option SlotProcess)) (slots : List (Option Process)) (tables : ℕ → Tables) → ((s : ℕ) → IsSlotContent (slice_get items s) (slice_get slots s) (tables s)) → total_credits (seats_of items) ≡ 0
seats_credits [] slots tables at = refl
seats_credits (None ∷ items) [] tables at = absurd (at 0)
seats_credits (Some x ∷ items) [] tables at = absurd (at 0)
seats_credits (None ∷ items) (o ∷ slots) tables at = seats_credits items slots (λ i. tables (suc i)) (λ s. at (suc s))
seats_credits (Some x ∷ items) (None ∷ slots) tables at = absurd (at 0)
seats_credits (Some x ∷ items) (Some p ∷ slots) tables at =
    let here : IsSlotProcess x (tables 0) p = at 0 in
    let none = here.agrees.credits in
    let rest = seats_credits items slots (λ i. tables (suc i)) (λ s. at (suc s)) in
    omega (arith, none, rest)

-- the frame of a copy number
pub record OnFrame (slots : List (Option Process)) (tables : ℕ → Tables) (f c : ℕ) : Type 0 where
  pub slot : ℕ
  pub number : ℕ
  pub process : Process
  pub page : Page
  pub there : slice_get slots slot ≡ Some (Some process)
  pub settled : get process.settled number ≡ Some page
  pub on : IsFrameOfPage (tables slot) number f
  pub copy : page.copy ≡ c

-- a frame f has so many references for the kernel, for TRAMPOLINE, for trapframes and tables, and for pages, and a count: it is frame
-- 0, or has one reference of the kernel or of one process, or is one of pages
record IsCode (f of_kernel of_code of_own of_pages count : ℕ) : Type 0 where
  pub first : f ≡ 0
  pub kernel : of_kernel ≡ 1
  pub own : of_own ≡ 0
  pub pages : of_pages ≡ 0
  pub all : count ≡ 1 + of_code

record IsOwn (f of_kernel of_code of_own of_pages count : ℕ) : Type 0 where
  pub far : f ≡ 0 → ⊥
  pub one : of_kernel + of_own ≡ 1
  pub pages : of_pages ≡ 0
  pub all : count ≡ 1

record IsPaged (f of_kernel of_code of_own of_pages count : ℕ) : Type 0 where
  pub far : f ≡ 0 → ⊥
  pub kernel : of_kernel ≡ 0
  pub own : of_own ≡ 0
  pub all : count ≡ of_pages

abbrev OfKind : ℕ → ℕ → ℕ → ℕ → ℕ → ℕ → Type 0
OfKind f k z o g c = IsCode f k z o g c ⊎ (IsOwn f k z o g c ⊎ IsPaged f k z o g c)

module _ (m : Machine) (w : World) (is : IsWorldButBuffers m w) where
  abbrev counts : List ℕ
  counts = m.frames.counts

  abbrev all : List Process
  all = live w.slots

  abbrev every_copy : List ℕ
  every_copy = flat_map copies_of all

  -- stacks and tables of the kernel
  abbrev of_kernel : List ℕ
  of_kernel = (kernel m w is).own

  -- frame 0 for each process
  abbrev code : List ℕ
  code = (places m w is).code

  -- trapframes and tables of processes
  abbrev own : List ℕ
  own = (places m w is).own

  abbrev pages : List ℕ
  pages = (places m w is).pages

  kernel_lone : (f : ℕ) → Among f of_kernel → slice_index counts f ≡ 1
  kernel_lone f i =
      let one = (kernel m w is).lone f i in
      let whole = (is.invariant.agrees.0 f).sole one.1 in
      sym whole.1 ∙ one.0

  kind_of : (f : ℕ) → OfKind f (times f (0 ∷ of_kernel)) (times f code) (times f own) (times f pages) (slice_index counts f)
  kind_of f =
      let ps = places m w is in
      let sum = count_kinds m w is f in
      elim (cases_eq f 0) [
        | inl e ↦ (
            let first : times f (0 ∷ of_kernel) ≡ 1 = ap (λ z. times z (0 ∷ of_kernel)) e ∙ (kernel m w is).all 0 ∙ is.of_kernel.maps.holds.code in
            let page : times f pages ≡ 0 = times_none f pages (λ i. ps.no_code (subst (λ z. Among z pages) e i)) in
            let mine : times f own ≡ 0 = times_none f own (λ i. let one = ps.lone f i in let some = times_among f own i in absurd (omega (arith, one, some, sum, first))) in
            inl (record { first = e; kernel = first; own = mine; pages = page; all = omega (arith, first, page, mine, sum) }))
        | inr far ↦ (
            let zero : times f code ≡ 0 = times_none f code (λ i. far (ps.zeros f i)) in
            let same : times f (0 ∷ of_kernel) ≡ times f of_kernel = (let off = if_apart f 0 far in omega (arith, off)) in
            let once : slice_index counts f ≡ 1 → 1 ≤ times f of_kernel + times f own → IsOwn f (times f (0 ∷ of_kernel)) (times f code) (times f own) (times f pages) (slice_index counts f) = λ one some.
            record { far = far; one = omega (arith, one, some, sum, same, zero); pages = omega (arith, one, some, sum, same, zero); all = one } in
            elim (among_or f of_kernel) [
              | inl i ↦ (let some = times_among f of_kernel i in inr (inl (once (kernel_lone f i) (omega (arith, some)))))
              | inr out ↦ (
                  let none = times_none f of_kernel out in
                  elim (among_or f own) [
                    | inl i ↦ (let some = times_among f own i in inr (inl (once (ps.lone f i) (omega (arith, some)))))
                    | inr off ↦ (
                        let less = times_none f own off in
                        inr (inr (record { far = far; kernel = omega (arith, same, none); own = less; all = omega (arith, same, none, less, zero, sum) })))
                  ])
            ])
      ]

  -- copy numbers and frames

  abbrev HasCopy : ℕ → ℕ → Type 0
  HasCopy = OnFrame w.slots is.tables

  copy_known : (c : ℕ) → Among c (copies_in all) → (f : ℕ) × HasCopy f c
  copy_known c i =
      let q = process_of_copy c w.slots (numbers_have_only every_copy c i) in
      let n = page_of_copy q.1 c q.3 in
      let x = tenant_of _ _ (is.tables q.0) q.1 q.2 (is.places q.0) in
      let shown = x.1.agrees.stands.shows.settled n.0 n.1 n.2 in
      (shown.frame, record { slot = q.0; number = n.0; process = q.1; page = n.1; there = q.2; settled = n.2; on = (shown.leaf, shown.mapped, shown.made.names); copy = n.3 })

  copy_listed : (f c : ℕ) → HasCopy f c → Among c (copies_in all)
  copy_listed f c r =
      subst (λ z. Among z (copies_in all)) r.copy
      (numbers_have every_copy r.page.copy (copy_of_process r.page.copy r.slot r.process w.slots r.there (copy_of_page r.process r.number r.page r.settled)))

  one_frame : (f g c : ℕ) → HasCopy f c → HasCopy g c → f ≡ g
  one_frame f g c r q = (is.copies r.slot q.slot r.number q.number f g r.process q.process r.page q.page r.there q.there r.settled q.settled r.on q.on).1 (r.copy ∙ sym q.copy)

  one_copy : (f c d : ℕ) → HasCopy f c → HasCopy f d → c ≡ d
  one_copy f c d r q = sym r.copy ∙ (is.copies r.slot q.slot r.number q.number f f r.process q.process r.page q.page r.there q.there r.settled q.settled r.on q.on).0 refl ∙ q.copy

  in_pages : (f c : ℕ) → HasCopy f c → Among f pages
  in_pages f c r = (places m w is).has_page f r.slot r.number r.process r.page r.there r.settled r.on

  of_pages : (f : ℕ) → Among f pages → (c : ℕ) × HasCopy f c
  of_pages f i =
      let q = (places m w is).of_page f i in
      ((q.3).copy, record { slot = q.0; number = q.1; process = q.2; page = q.3; there = q.4; settled = q.5; on = q.6; copy = refl })

  of_copy : (f c : ℕ) → HasCopy f c → OfCopy w.slots is.tables f c
  of_copy f c r i n g p a there settled on =
      let both = is.copies r.slot i r.number n f g r.process p r.page a r.there there r.settled settled r.on on in
      ((λ e. sym (both.0 e) ∙ r.copy), (λ e. both.1 (r.copy ∙ sym e)))

  -- a frame has as many references of pages as processes have its copy number
  as_often : (f c : ℕ) → HasCopy f c → times f pages ≡ length (filter (has_copy c) all)
  as_often f c r = (places m w is).copied f c (of_copy f c r) ∙ sym (length-filter (has_copy c) all)

  -- and no others
  pub count_of_page : (f c : ℕ) → HasCopy f c → slice_index counts f ≡ length (filter (has_copy c) all)
  count_of_page f c r =
      let some = times_among f pages (in_pages f c r) in
      elim (kind_of f) [
        | inl x ↦ (let none = x.pages in absurd (omega (arith, none, some)))
        | inr y ↦ elim y [
          | inl x ↦ (let none = x.pages in absurd (omega (arith, none, some)))
          | inr x ↦ x.all ∙ as_often f c r
        ]
      ]

  -- held frames

  copy_frames : (fs : List ℕ) × Matched HasCopy (copies_in all) fs
  copy_frames = matched HasCopy (copies_in all) (keys_distinct (numbers every_copy)) copy_known (λ f g c _ r q. one_frame f g c r q) (λ f c d _ _ r q. one_copy f c d r q)

  frames_times : (f : ℕ) → times f copy_frames.0 ≡ cond (nat_lt 0 (times f pages)) 1 0
  frames_times f = elim (among_or f pages) [
    | inl i ↦ (
        let r = of_pages f i in
        let some = times_among f pages i in
        times_one f copy_frames.0 copy_frames.1.distinct (copy_frames.1.has f r.0 (copy_listed f r.0 r.1) r.1) ∙ sym (one_past 0 (times f pages) (omega (arith, some))))
    | inr out ↦ (
        let none = times_none f pages out in
        times_none f copy_frames.0 (λ i. let c = copy_frames.1.of f i in out (in_pages f c.0 c.2)) ∙ sym (none_past 0 (times f pages) (omega (arith, none))))
  ]

  abbrev held : List ℕ
  held = (0 ∷ of_kernel) ++ (own ++ copy_frames.0)

  held_times : (f : ℕ) → times f held ≡ cond (nat_lt 0 (slice_index counts f)) 1 0
  held_times f =
      let parts = times_append f (0 ∷ of_kernel) (own ++ copy_frames.0) in
      let others = times_append f own copy_frames.0 in
      let copied = frames_times f in
      elim (kind_of f) [
        | inl x ↦ (
            let many = x.all in let page = x.pages in let first = x.kernel in let mine = x.own in
            let none = none_past 0 (times f pages) (omega (arith, page)) in
            let one = one_past 0 (slice_index counts f) (omega (arith, many)) in
            omega (arith, parts, others, copied, first, mine, none, one))
        | inr y ↦ elim y [
          | inl x ↦ (
              let many = x.all in let page = x.pages in let once = x.one in
              let none = none_past 0 (times f pages) (omega (arith, page)) in
              let one = one_past 0 (slice_index counts f) (omega (arith, many)) in
              omega (arith, parts, others, copied, once, none, one))
          | inr x ↦ (
              let first = x.kernel in let mine = x.own in
              let same : ◌≡◌ {A = ℕ} (cond (nat_lt 0 (slice_index counts f)) 1 0) (cond (nat_lt 0 (times f pages)) 1 0) = ap (λ z. cond (nat_lt 0 z) 1 0) x.all in
              omega (arith, parts, others, copied, first, mine, same))
        ]
      ]

  abbrev held_frames : ℕ
  held_frames = kernel_frames w.scheme w.frames (length w.slots) + length (copies_in all) + sum_by own_frames all

  held_are : count_by (λ c. nat_lt 0 c) counts ≡ held_frames
  held_are =
      let listed = count_is (λ c. nat_lt 0 c) counts held refl held_times in
      let parts = length-append (0 ∷ of_kernel) (own ++ copy_frames.0) in
      let others = length-append own copy_frames.0 in
      let kernel_long = (kernel m w is).long in
      let of_world = ap (λ k. kernel_frames k w.frames (length w.slots)) is.scheme in
      let own_long = (places m w is).own_long in
      let copies_long = copy_frames.1.long in
      omega (arith, listed, parts, others, kernel_long, of_world, own_long, copies_long)

  -- free frames

  -- no seat has credits, so that the free number is that of the frames of count 0
  free_zeros : count_by is_zero counts ≡ m.frames.free
  free_zeros =
      let all_free = is.invariant.balanced in
      let of_the_kernel = is.of_kernel.credits in
      let of_processes = seats_credits m.slots.items w.slots is.tables is.places in
      omega (arith, all_free, of_the_kernel, of_processes)

  -- held frames and free ones are all, so that the model's subtraction cuts nothing off
  pub free_is : m.frames.free ≡ free w
  free_is =
      let both = count_opposite is_zero (λ c. nat_lt 0 c) zero_or or_zero counts in
      let zeros = free_zeros in
      let others = held_are in
      let whole = sized m w is in
      omega (arith, both, zeros, others, whole)

  -- shared frames

  abbrev shared_copies : List ℕ
  shared_copies = filter (is_shared_copy all) (copies_in all)

  page_frames : (fs : List ℕ) × Matched HasCopy shared_copies fs
  page_frames = matched HasCopy shared_copies (filter_distinct (is_shared_copy all) (copies_in all) (keys_distinct (numbers every_copy)))
      (λ c i. copy_known c (filter_of (is_shared_copy all) c (copies_in all) i).0) (λ f g c _ r q. one_frame f g c r q) (λ f c d _ _ r q. one_copy f c d r q)

  shared_times : (f : ℕ) → times f page_frames.0 ≡ cond (nat_lt 1 (times f pages)) 1 0
  shared_times f = elim (cases_lt 1 (times f pages)) [
    | inl more ↦ (
        let r = of_pages f (among_times f pages (omega (arith, more))) in
        let often = as_often f r.0 r.1 in
        let two : is_shared_copy all r.0 ≡ true = is_least (length (filter (has_copy r.0) all)) (omega (arith, often, more)) in
        times_one f page_frames.0 page_frames.1.distinct (page_frames.1.has f r.0 (in_filter (is_shared_copy all) r.0 (copies_in all) (copy_listed f r.0 r.1) two) r.1)
        ∙ sym (one_past 1 (times f pages) more))
    | inr few ↦
        times_none f page_frames.0 (λ i.
        let c = page_frames.1.of f i in
        let often = as_often f c.0 c.2 in
        let two = at_least (length (filter (has_copy c.0) all)) (filter_of (is_shared_copy all) c.0 (copies_in all) c.1).1 in
        absurd (omega (arith, few, often, two))) ∙ sym (none_past 1 (times f pages) few)
  ]

  -- frame 0 is shared where a process lives

  abbrev code_if : Bool → List ℕ
  code_if true = 0 ∷ []
  code_if false = []

  code_long : (b : Bool) → length (code_if b) ≡ (if b then 1 else 0)
  code_long true = refl
  code_long false = refl

  code_here : (b : Bool) → times 0 (code_if b) ≡ (if b then 1 else 0)
  code_here true = refl
  code_here false = refl

  code_far : (b : Bool) (f : ℕ) → (f ≡ 0 → ⊥) → times f (code_if b) ≡ 0
  code_far true f far = let off = if_apart f 0 far in omega (arith, off)
  code_far false f far = refl

  abbrev lives : Bool
  lives = nat_lt 0 (length all)

  abbrev shared : List ℕ
  shared = page_frames.0 ++ code_if lives

  next_test : (n : ℕ) → ◌≡◌ {A = ℕ} (cond (nat_lt 1 (1 + n)) 1 0) (if nat_lt 0 n then 1 else 0)
  next_test n = elim (cases_lt 0 n) [
    | inl some ↦ one_past 1 (1 + n) (omega (arith, some)) ∙ sym (one_past 0 n some)
    | inr none ↦ none_past 1 (1 + n) (omega (arith, none)) ∙ sym (none_past 0 n none)
  ]

  all_shared : (f : ℕ) → times f shared ≡ cond (is_shared (slice_index counts f)) 1 0
  all_shared f =
      let parts = times_append f page_frames.0 (code_if lives) in
      let paged = shared_times f in
      elim (kind_of f) [
        | inl x ↦ (
            let page = x.pages in
            let none = none_past 1 (times f pages) (omega (arith, page)) in
            let many : times f code ≡ length all = ap (λ z. times z code) x.first ∙ (places m w is).code_times ∙ (places m w is).code_long in
            let count : slice_index counts f ≡ 1 + length all = x.all ∙ ap (λ z. 1 + z) many in
            let last : times f (code_if lives) ≡ (if lives then 1 else 0) = ap (λ z. times z (code_if lives)) x.first ∙ code_here lives in
            let test : ◌≡◌ {A = ℕ} (cond (is_shared (slice_index counts f)) 1 0) (if lives then 1 else 0) = ap (λ z. cond (nat_lt 1 z) 1 0) count ∙ next_test (length all) in
            omega (arith, parts, paged, none, last, test))
        | inr y ↦ elim y [
          | inl x ↦ (
              let page = x.pages in let count = x.all in
              let none = none_past 1 (times f pages) (omega (arith, page)) in
              let last = code_far lives f x.far in
              let test = none_past 1 (slice_index counts f) (omega (arith, count)) in
              omega (arith, parts, paged, none, last, test))
          | inr x ↦ (
              let last = code_far lives f x.far in
              let same : ◌≡◌ {A = ℕ} (cond (is_shared (slice_index counts f)) 1 0) (cond (nat_lt 1 (times f pages)) 1 0) = ap (λ z. cond (nat_lt 1 z) 1 0) x.all in
              omega (arith, parts, paged, last, same))
        ]
      ]

  shared_are : count_by is_shared counts ≡ shared_frames all
  shared_are =
      let listed = count_is is_shared counts shared refl all_shared in
      let parts = length-append page_frames.0 (code_if lives) in
      let pages_long = page_frames.1.long in
      let one_more = code_long lives in
      omega (arith, listed, parts, pages_long, one_more)

  -- the report

  same_report : (f h s r f' h' s' r' : ℕ) → f ≡ f' → h ≡ h' → s ≡ s' → r ≡ r'
      → ◌≡◌ {A = Report} (record { free = f; held = h; shared = s; references = r }) (record { free = f'; held = h'; shared = s'; references = r' })
  same_report f h s r f' h' s' r' free held shared references = rw (free, held, shared, references) refl

  pub report_is : report_of counts ≡ report w
  report_is =
      let zeros : count_by is_zero counts ≡ free w = free_zeros ∙ free_is in
      same_report _ _ _ _ _ _ _ _ zeros (ap (λ n. length counts - n) zeros ∙ ap (λ n. n - free w) (sized m w is)) shared_are (references_are m w is)
