-- Lemmas on the page writes of a run (pages of one mapping) that is written back, page by page: none at first, what one
-- settled page adds, none after the last. No page is written if stores go to no file, and a longer run writes no fewer pages.
use Rattle.std.proofs.Common.{◌≡◌, ℕ, Bool, true, false, not, ◌+◌, ◌-◌, ◌*◌, ◌<◌, ◌≤◌, inl, inr, refl, ap, sym, subst, ◌∙◌, arith, List, [], ◌∷◌, ◌++◌, None, Some, length}
use Rattle.std.specs.Prelude.{T, nat_le, nat_lt, ◌&&◌, ◌||◌, flat_map, if◌then◌else◌}
use Rattle.std.specs.Cmp.{unsigned_tied}
use Rattle.std.specs.FinMap.Entries.{below_all, find, is_sorted}
use Rattle.std.specs.Ordering.{is_lt, nat_cmp}
use Rattle.std.proofs.lemmas.Bool.{and_parts, cases_eq, cases_lt, eq-eqb, ne_eqb}
use Rattle.std.proofs.lemmas.List.{append-nil, append_assoc, length-append}
use Rattle.std.proofs.lemmas.Option.{same_Some}
use Rattle.address_space.specs.Agreement.{is_dirty_page}
use Rattle.mmap_regions.specs.Runs.{place_in, stored_file}
use Rattle.process_model.specs.Mappings.{is_written_back}
use Rattle.process_model.specs.PageMoves.{moves_of, moves_to, page_write, PageMove, run_moves}
use Rattle.process_model.specs.PageMap as pages
use Rattle.process_model.specs.Process.{Page, Process}
use Rattle.process_model.specs.Regions.{file, image, is_shared_kind, keeps_stores, Region, Source, zeros}

-- entries in order

abbrev Entries : Type 0
Entries = List (ℕ × Page)

front : (a b : Bool) → T (a && b) → T a
front true b t = tt
front false b t = t

back : (a b : Bool) → T (a && b) → T b
back true b t = t
back false b t = absurd t

less_of : (a b : ℕ) → T (is_lt (nat_cmp a b)) → a < b
less_of a b t = grind arith

found_here : (k : ℕ) (x : ℕ × Page) (es : Entries) → k ≡ x.0 → find nat_cmp k (x ∷ es) ≡ Some x.1
found_here k x es same = rw (unsigned_tied k x.0, eq-eqb k x.0 same) refl

found_there : (k : ℕ) (x : ℕ × Page) (es : Entries) → (k ≡ x.0 → ⊥) → find nat_cmp k (x ∷ es) ≡ find nat_cmp k es
found_there k x es apart = rw (unsigned_tied k x.0, ne_eqb k x.0 apart) refl

above : (low k : ℕ) (s : Page) (es : Entries) → T (below_all nat_cmp low es) → find nat_cmp k es ≡ Some s → low < k
above low k s [] rises at = absurd (cc)
above low k s (e ∷ es) rises at = elim (cases_eq k e.0) [
  | inl same ↦ let less = less_of low e.0 (front _ _ rises) in omega (arith, same, less)
  | inr apart ↦ above low k s es (back _ _ rises) (sym (found_there k e es apart) ∙ at)
]

pair_is : (x : ℕ × Page) (k : ℕ) (s : Page) → x.0 ≡ k → x.1 ≡ s → x ≡ (k, s)
pair_is x k s one two = λ j. (one j, two j)

-- from one page up to, and without, another

module _ (m : Region) (first : ℕ) where
  abbrev written : ℕ × Page → List PageMove
  written e = moves_to m.source (4096 * (e.0 - m.first)) (e.1).bytes

  abbrev all_to : ℕ → Entries → List PageMove
  all_to end es = flat_map (moves_of m first end) es

  not_yet : (end : ℕ) (e : ℕ × Page) → end ≤ e.0 → moves_of m first end e ≡ []
  not_yet end e late =
      let is : (nat_le first e.0 && nat_lt e.0 end && is_written_back m e.1) ≡ false = grind (arith, late) in
      rw is refl

  same_below : (a b : ℕ) (e : ℕ × Page) → e.0 < a → e.0 < b → moves_of m first a e ≡ moves_of m first b e
  same_below a b e less too =
      let is : nat_lt e.0 a ≡ nat_lt e.0 b = grind (arith, less, too) in
      ap (λ t. if nat_le first e.0 && t && is_written_back m e.1 then written e else []) is

  none_to : (low end : ℕ) (es : Entries) → T (below_all nat_cmp low es) → end ≤ low + 1 → all_to end es ≡ []
  none_to low end [] rises le = refl
  none_to low end (e ∷ es) rises le =
      let less = less_of low e.0 (front _ _ rises) in
      let later : T (below_all nat_cmp low es) = back _ _ rises in
      rw (not_yet end e (omega (arith, less, le)), none_to low end es later le) refl

  -- a settled page with none before it comes next
  next_page : (from page : ℕ) (s : Page) (es : Entries) → T (is_sorted nat_cmp es) → find nat_cmp page es ≡ Some s → ((n : ℕ) → from ≤ n → n < page → find nat_cmp n es ≡ None)
      → from ≤ page → all_to (page + 1) es ≡ all_to from es ++ moves_of m first (page + 1) (page, s)
  next_page from page s [] sorted at none le = absurd (cc)
  next_page from page s (e ∷ es) sorted at none le = elim (cases_eq page e.0) [
    | inl same ↦
        let is : e.1 ≡ s = same_Some e.1 s (sym (found_here page e es same) ∙ at) in
        let rises : T (below_all nat_cmp page es) = subst (λ k. T (below_all nat_cmp k es)) (sym same) (front _ _ sorted) in
        rw (none_to page (page + 1) es rises (omega arith), none_to page from es rises (omega (arith, le)), not_yet from e (omega (arith, le, same)), pair_is e page s (sym same) is)
        (append-nil (moves_of m first (page + 1) (page, s)))
    | inr apart ↦
        let there = sym (found_there page e es apart) ∙ at in
        let less = above e.0 page s es (front _ _ sorted) there in
        let early : e.0 < from = elim (cases_lt e.0 from) [ inl l ↦ l | inr late ↦ absurd (let gone = sym (found_here e.0 e es refl) ∙ none e.0 (omega (arith, late)) less in cc) ] in
        let rest = next_page from page s es (back _ _ sorted) there (λ n low high. sym (found_there n e es (λ same. omega (arith, same, low, early))) ∙ none n low high) le in
        ap (λ ms. ms ++ all_to (page + 1) es) (same_below (page + 1) from e (omega (arith, less)) early)
        ∙ ap (λ ms. moves_of m first from e ++ ms) rest
        ∙ sym (append_assoc (moves_of m first from e) (all_to from es) (moves_of m first (page + 1) (page, s)))
  ]

  -- where no page is left, all was written
  none_left : (from end : ℕ) (es : Entries) → ((n : ℕ) → from ≤ n → n < end → find nat_cmp n es ≡ None) → from ≤ end → all_to end es ≡ all_to from es
  none_left from end [] none le = refl
  none_left from end (e ∷ es) none le =
      let rest = none_left from end es (λ n low high. elim (cases_eq n e.0) [
        | inl same ↦ absurd (let gone = sym (found_here n e es same) ∙ none n low high in cc)
        | inr apart ↦ sym (found_there n e es apart) ∙ none n low high
      ]) le in
      let here : moves_of m first end e ≡ moves_of m first from e = elim (cases_lt e.0 from) [
        | inl early ↦ same_below end from e (omega (arith, early, le)) early
        | inr late ↦ elim (cases_lt e.0 end) [
          | inl inside ↦ absurd (let gone = sym (found_here e.0 e es refl) ∙ none e.0 (omega (arith, late)) inside in cc)
          | inr past ↦ not_yet end e (omega (arith, past)) ∙ sym (not_yet from e (omega (arith, late)))
        ]
      ] in
      rw (here, rest) refl

  -- a longer run writes as many pages or more
  one_longer : (a b : ℕ) (e : ℕ × Page) → a ≤ b → length (moves_of m first a e) ≤ length (moves_of m first b e)
  one_longer a b e le = elim (cases_lt e.0 a) [
    | inl less ↦ rw (same_below a b e less (omega (arith, less, le))) (omega arith)
    | inr late ↦ rw (not_yet a e (omega (arith, late))) (omega arith)
  ]

  longer : (a b : ℕ) (es : Entries) → a ≤ b → length (all_to a es) ≤ length (all_to b es)
  longer a b [] le = omega arith
  longer a b (e ∷ es) le =
      let one = one_longer a b e le in
      let rest = longer a b es le in
      let left = length-append (moves_of m first a e) (all_to a es) in
      let right = length-append (moves_of m first b e) (all_to b es) in
      omega (arith, one, rest, left, right)

  -- the run has begun
  begun : (es : Entries) → all_to first es ≡ []
  begun [] = refl
  begun (e ∷ es) =
      let is : (nat_le first e.0 && nat_lt e.0 first && is_written_back m e.1) ≡ false = grind arith in
      rw (is, begun es) refl

-- by the file to which stores go back

unwritten : (keeps : Bool) (s : Source) (at : ℕ) (bytes : List ℕ) → place_in keeps s ≡ None → (inside mark : Bool) → (if inside && (keeps && mark) then moves_to s at bytes else []) ≡ []
unwritten keeps s at bytes none false mark = refl
unwritten false s at bytes none true mark = refl
unwritten true s at bytes none true false = refl
unwritten true zeros at bytes none true true = refl
unwritten true image at bytes none true true = refl
unwritten true (file n offset) at bytes none true true = absurd (cc)

pub of_file : (keeps : Bool) (s : Source) (n offset : ℕ) → place_in keeps s ≡ Some (n, offset) → (keeps ≡ true) × (s ≡ file n offset)
of_file false s n offset is = absurd (cc)
of_file true zeros n offset is = absurd (cc)
of_file true image n offset is = absurd (cc)
of_file true (file k at) n offset is =
    let pair = same_Some (k, at) (n, offset) is in
    (refl, ap (λ j. file j at) (ap (λ (x : ℕ × ℕ). x.0) pair) ∙ ap (λ o. file n o) (ap (λ (x : ℕ × ℕ). x.1) pair))

dirty_with : (mark : Bool) → ((mark || not true) && true) ≡ mark
dirty_with true = refl
dirty_with false = refl

module _ (m : Region) (first : ℕ) where
  -- stores that go back to no file are not written
  pub none_written : stored_file m ≡ None → (end : ℕ) (es : Entries) → all_to m first end es ≡ []
  none_written none end [] = refl
  none_written none end (e ∷ es) =
      rw (unwritten (keeps_stores (Some m)) m.source (4096 * (e.0 - m.first)) (e.1).bytes none (nat_le first e.0 && nat_lt e.0 end) (e.1).dirty, none_written none end es) refl

  -- a page that is dirty is written to its place in the file
  pub page_written : (n offset page : ℕ) (s : Page) → stored_file m ≡ Some (n, offset) → first ≤ page
      → moves_of m first (page + 1) (page, s) ≡ (if is_dirty_page m s then page_write n (offset + 4096 * (page - m.first)) s.bytes ∷ [] else [])
  page_written n offset page s is from =
      let file_is = of_file (keeps_stores (Some m)) m.source n offset is in
      let inside : (nat_le first page && nat_lt page (page + 1)) ≡ true = grind (arith, from) in
      let parts = and_parts m.writes (is_shared_kind m.kind) file_is.0 in
      let dirty : is_dirty_page m s ≡ s.dirty = rw (parts.0, parts.1) (dirty_with s.dirty) in
      rw (inside, file_is.0, file_is.1, dirty) refl

-- of a process

module _ (p : Process) (m : Region) (first : ℕ) where
  pub run_begins : run_moves p m first first ≡ []
  run_begins = begun m first p.settled.entries

  pub run_goes_on : (from page : ℕ) (s : Page) → pages.get p.settled page ≡ Some s → ((n : ℕ) → from ≤ n → n < page → pages.get p.settled n ≡ None) → from ≤ page
      → run_moves p m first (page + 1) ≡ run_moves p m first from ++ moves_of m first (page + 1) (page, s)
  run_goes_on from page s at none le = next_page m first from page s p.settled.entries p.settled.sorted at none le

  pub run_is_over : (from end : ℕ) → ((n : ℕ) → from ≤ n → n < end → pages.get p.settled n ≡ None) → from ≤ end → run_moves p m first end ≡ run_moves p m first from
  run_is_over from end none le = none_left m first from end p.settled.entries none le

  pub run_longer : (a b : ℕ) → a ≤ b → length (run_moves p m first a) ≤ length (run_moves p m first b)
  run_longer a b le = longer m first a b p.settled.entries le
