-- Lemmas: the frames of all processes of a machine, as three lists (`HasAll`): frame 0 once for each process, trapframes and
-- tables, and frames of pages; how long these are, and that together they are all references of the processes.
use Rattle.std.proofs.Common.{◌≡◌, ℕ, zero, suc, ◌+◌, true, false, cond, inl, inr, refl, ap, sym, subst, ◌∙◌, arith, List, [], ◌∷◌, ◌++◌, length, Option, Some, None, slice_index}
use Rattle.std.specs.Prelude.{◌↔◌, count_by, slice_get, sum_by}
use Rattle.std.proofs.lemmas.List.{length-append}
use Rattle.std.proofs.lemmas.List.Sums.{sum_by-cons}
use Rattle.std.proofs.lemmas.Option.{same_Some}
use Rattle.address_space.specs.Agreement.{IsFrameOfPage, no_extra, IsInMemory}
use Rattle.frame_store.specs.Plain.{Agrees, AllAgree, total_references}
use Rattle.frame_store.specs.View.{View}
use Rattle.hart_machine.specs.SlotProcesses.{IsSlotProcess, view_of}
use Rattle.hart_machine.specs.Worlds.{IsSlotContent, seats_of}
use Rattle.hart_machine.specs.declared.slot_process.SlotProcess.{SlotProcess}
use Rattle.process_model.specs.Frames.{copies_of, has_copy, live, own_frames, references_of}
use Rattle.process_model.specs.PageMap.{get}
use Rattle.process_model.specs.Process.{Page, Process}
use Rattle.table_walk.specs.Tables.{Tables}
use Rattle.hart_machine.proofs.PageCopies.{among_has, copy_of_page, has_among, page_of_copy}
use Rattle.hart_machine.proofs.NumberLists.{Among, among_back, among_front, among_parts, times, times_append, times_none, times_one}
use Rattle.hart_machine.proofs.SeatFrames.{HasFrames, process_frames}

abbrev pub entries_of : Process → ℕ
entries_of p = length p.settled.entries

-- a frame is of the pages with a copy number, and of no others
abbrev pub OfCopy : List (Option Process) → (ℕ → Tables) → ℕ → ℕ → Type 0
OfCopy slots tables f c = (i n g : ℕ) (p : Process) (a : Page) → slice_get slots i ≡ Some (Some p) → get p.settled n ≡ Some a → IsFrameOfPage (tables i) n g → (f ≡ g) ↔ (a.copy ≡ c)

pub record HasAll (counts : List ℕ) (items : List (Option SlotProcess)) (slots : List (Option Process)) (tables : ℕ → Tables) : Type 0 where
  -- frame 0 once for each process; trapframes and tables; the frames of pages
  pub code : List ℕ
  pub own : List ℕ
  pub pages : List ℕ
  pub code_long : length code ≡ length (live slots)
  pub own_long : length own ≡ sum_by own_frames (live slots)
  pub pages_long : length pages ≡ sum_by entries_of (live slots)
  pub zeros : (f : ℕ) → Among f code → f ≡ 0
  pub code_times : times 0 code ≡ length code
  pub lone : (f : ℕ) → Among f own → slice_index counts f ≡ 1
  pub no_code : Among 0 pages → ⊥
  pub of_page : (f : ℕ) → Among f pages → (i n : ℕ) × (p : Process) × (a : Page) × (slice_get slots i ≡ Some (Some p)) × (get p.settled n ≡ Some a) × IsFrameOfPage (tables i) n f
  pub has_page : (f i n : ℕ) (p : Process) (a : Page) → slice_get slots i ≡ Some (Some p) → get p.settled n ≡ Some a → IsFrameOfPage (tables i) n f → Among f pages
  pub copied : (f c : ℕ) → OfCopy slots tables f c → times f pages ≡ count_by (has_copy c) (live slots)
  pub all : (f : ℕ) → times f code + times f own + times f pages ≡ total_references f (seats_of items)

-- of one process

module _ (v : View) (root trapframe : ℕ) (t : Tables) (p : Process) (s : IsInMemory v root trapframe no_extra t p) (h : HasFrames v trapframe t p) (f c : ℕ)
    (of : (n g : ℕ) (a : Page) → get p.settled n ≡ Some a → IsFrameOfPage t n g → (f ≡ g) ↔ (a.copy ≡ c)) where
  copied_one : times f h.pages ≡ cond (has_copy c p) 1 0
  copied_one = elim (has_copy c p) as (λ b. has_copy c p ≡ b → times f h.pages ≡ cond b 1 0) [
    | true ↦ λ is.
        let page = page_of_copy p c (has_among c p is) in
        let shown = s.shows.settled page.0 page.1 page.2 in
        let on : IsFrameOfPage t page.0 shown.frame = (shown.leaf, shown.mapped, shown.made.names) in
        let same : f ≡ shown.frame = (of page.0 shown.frame page.1 page.2 on).1 page.3 in
        times_one f h.pages h.pages_distinct (subst (λ z. Among z h.pages) (sym same) (h.has_page shown.frame page.0 page.1 page.2 on))
    | false ↦ λ not_it. times_none f h.pages (λ i.
        let page = h.of_page f i in
        let copy = (of page.0 f page.1 page.2 page.3).0 refl in
        let is : has_copy c p ≡ true = among_has c p (subst (λ z. Among z (copies_of p)) copy (copy_of_page p page.0 page.1 page.2)) in
        cc)
  ] refl

module _ (words counts : List ℕ) where
  pub places_have : (items : List (Option SlotProcess)) (slots : List (Option Process)) (tables : ℕ → Tables) → ((s : ℕ) → IsSlotContent (slice_get items s) (slice_get slots s) (tables s))
      → AllAgree words counts (seats_of items) → HasAll counts items slots tables
  places_have [] [] tables places agree = record {
    code = [];
    own = [];
    pages = [];
    code_long = refl;
    own_long = refl;
    pages_long = refl;
    zeros = λ f i. absurd i;
    code_times = refl;
    lone = λ f i. absurd i;
    no_code = λ i. i;
    of_page = λ f i. absurd i;
    has_page = λ f i n p a at. absurd (cc);
    copied = λ f c of. refl;
    all = λ f. refl;
  }
  places_have [] (q ∷ slots) tables places agree = absurd (places 0)
  places_have (None ∷ items) [] tables places agree = absurd (places 0)
  places_have (Some x ∷ items) [] tables places agree = absurd (places 0)
  places_have (None ∷ items) (Some p ∷ slots) tables places agree = absurd (places 0)
  places_have (Some x ∷ items) (None ∷ slots) tables places agree = absurd (places 0)
  places_have (None ∷ items) (None ∷ slots) tables places agree =
      let rest = places_have items slots (λ i. tables (suc i)) (λ s. places (suc s)) agree in
      record {
        code = rest.code;
        own = rest.own;
        pages = rest.pages;
        code_long = rest.code_long;
        own_long = rest.own_long;
        pages_long = rest.pages_long;
        zeros = rest.zeros;
        code_times = rest.code_times;
        lone = rest.lone;
        no_code = rest.no_code;
        of_page = λ f i. let old = rest.of_page f i in (suc old.0, old.1, old.2, old.3, old.4, old.5, old.6);
        has_page = λ f i n p a at. elim i as (λ j. slice_get (None ∷ slots) j ≡ Some (Some p) → get p.settled n ≡ Some a → IsFrameOfPage (tables j) n f → Among f rest.pages) [
          | zero ↦ λ never. absurd (cc)
          | suc j ↦ λ there has on. rest.has_page f j n p a there has on
        ] at;
        copied = λ f c of. rest.copied f c (λ i n g p a at. of (suc i) n g p a at);
        all = rest.all;
      }
  places_have (Some x ∷ items) (Some p ∷ slots) tables places agree =
      let place : IsSlotProcess x (tables 0) p = places 0 in
      let stands = place.agrees.stands in
      let h = process_frames (view_of x) x.space.root.0 x.space.trapframe.0 (tables 0) p stands in
      let rest = places_have items slots (λ i. tables (suc i)) (λ s. places (suc s)) agree.1 in
      let mine : List ℕ = x.space.trapframe.0 ∷ h.tables in
      record {
        code = 0 ∷ rest.code;
        own = mine ++ rest.own;
        pages = h.pages ++ rest.pages;
        code_long = let others = rest.code_long in omega (arith, others);
        own_long =
            let parts = length-append mine rest.own in
            let first = h.tables_long in
            let others = rest.own_long in
            let sum = sum_by-cons own_frames p (live slots) in
            omega (arith, parts, first, others, sum);
        pages_long =
            let parts = length-append h.pages rest.pages in
            let first = h.pages_long in
            let others = rest.pages_long in
            let sum = sum_by-cons entries_of p (live slots) in
            omega (arith, parts, first, others, sum);
        zeros = λ f i. elim i [ inl e ↦ e | inr j ↦ rest.zeros f j ];
        code_times = let others = rest.code_times in omega (arith, others);
        lone = λ f i. elim (among_parts f mine rest.own i) [
          | inl j ↦ (let one = h.lone f j in let agrees : Agrees words counts (view_of x) = agree.0 in let whole = (agrees f).sole one.1 in sym whole.1 ∙ one.0)
          | inr j ↦ rest.lone f j
        ];
        no_code = λ i. elim (among_parts 0 h.pages rest.pages i) [ inl j ↦ h.no_code j | inr j ↦ rest.no_code j ];
        of_page = λ f i. elim (among_parts f h.pages rest.pages i) [
          | inl j ↦ (let page = h.of_page f j in (0, page.0, p, page.1, refl, page.2, page.3))
          | inr j ↦ (let old = rest.of_page f j in (suc old.0, old.1, old.2, old.3, old.4, old.5, old.6))
        ];
        has_page = λ f i n q a at. elim i as (λ j. slice_get (Some p ∷ slots) j ≡ Some (Some q) → get q.settled n ≡ Some a → IsFrameOfPage (tables j) n f → Among f (h.pages ++ rest.pages)) [
          | zero ↦ λ here has on. among_front f h.pages rest.pages (h.has_page f n a (ap (λ (z : Process). get z.settled n) (same_Some p q (same_Some _ _ here)) ∙ has) on)
          | suc j ↦ λ there has on. among_back f h.pages rest.pages (rest.has_page f j n q a there has on)
        ] at;
        copied = λ f c of.
            let parts = times_append f h.pages rest.pages in
            let first = copied_one (view_of x) x.space.root.0 x.space.trapframe.0 (tables 0) p stands h f c (λ n g a has on. of 0 n g p a refl has on) in
            let others = rest.copied f c (λ i n g q a at. of (suc i) n g q a at) in
            let sum = sum_by-cons (λ (y : Process). cond (has_copy c y) 1 0) p (live slots) in
            omega (arith, parts, first, others, sum);
        all = λ f.
            let first = h.all f in
            let both = times_append f h.tables h.pages in
            let own_parts = times_append f mine rest.own in
            let page_parts = times_append f h.pages rest.pages in
            let others = rest.all f in
            omega (arith, first, both, own_parts, page_parts, others);
      }

-- references of processes, by kinds
pub sum_kinds : (ps : List Process) → length ps + sum_by own_frames ps + sum_by entries_of ps ≡ sum_by references_of ps
sum_kinds [] = refl
sum_kinds (p ∷ ps) =
    let owns = sum_by-cons own_frames p ps in
    let pages = sum_by-cons entries_of p ps in
    let all = sum_by-cons references_of p ps in
    let rest = sum_kinds ps in
    omega (arith, owns, pages, all, rest)
