-- Lemmas for the loops over the settled pages (those in memory) of a run (pages of one mapping): what a page with or without
-- the dirty mark (D) adds to the page writes, when the loop is over, that there are more writes to come, and that offsets
-- in the file stay in reach.
use Rattle.std.proofs.Common.{◌≡◌, ℕ, true, false, ◌+◌, ◌-◌, ◌*◌, ◌<◌, ◌≤◌, refl, ap, sym, subst, ◌∙◌, arith, List, [], ◌∷◌, ◌++◌, Option, None, Some, length}
use Rattle.std.specs.Prelude.{is_some, if◌then◌else◌}
use Rattle.std.proofs.lemmas.List.{append-nil, length-append}
use Rattle.std.proofs.lemmas.Option.{same_Some}
use Rattle.address_space.specs.Agreement.{is_dirty_page}
use Rattle.address_space.specs.SettledLists.{IsNextSettled, IsSettledPage}
use Rattle.address_space.specs.declared.settled_pages.SettledPage.{SettledPage}
use Rattle.mmap_regions.specs.Runs.{IsRunOf, MappedRun, stored_file}
use Rattle.mmap_regions.proofs.Moves.{of_file, page_written, run_goes_on, run_is_over, run_longer}
use Rattle.process_model.specs.declared.limits.TheConstants.{LONGEST_MAPPING}
use Rattle.process_model.specs.Order.{IsInReach}
use Rattle.process_model.specs.PageMoves.{page_write, PageMove, run_moves}
use Rattle.process_model.specs.PageMap.{get}
use Rattle.process_model.specs.Process.{Page, Process}
use Rattle.process_model.specs.Regions.{file, keeps_stores}
use Rattle.table_walk.specs.Tables.{Tables}

pub none_of : {A : Type 0} (o : Option A) → is_some o ≡ false → o ≡ None
none_of None is = refl
none_of (Some x) is = absurd (cc)

pub some_of : {A : Type 0} (o : Option A) → is_some o ≡ true → (x : A) × (o ≡ Some x)
some_of None is = absurd (cc)
some_of (Some x) is = (x, refl)

module _ (t : Tables) (p : Process) (run : MappedRun) (is : IsRunOf p run) where
  abbrev so_far : ℕ → List PageMove
  so_far from = run_moves p run.mapping run.first from

  pub over : (from : ℕ) → IsNextSettled t p from run.end None → run.first ≤ from → from ≤ run.end → so_far run.end ≡ so_far from
  over from none after within = run_is_over p run.mapping run.first from run.end none within

  module _ (from : ℕ) (x : SettledPage) (next : IsNextSettled t p from run.end (Some x)) (after : run.first ≤ from) where
    abbrev settled : IsSettledPage t p x
    settled = next.3

    abbrev pub settled_page : Page
    settled_page = next.3.page

    pub is_settled : get p.settled x.page ≡ Some settled_page
    is_settled = settled.settled

    past : run.first ≤ x.page
    past = omega (arith, after, next.0)

    region_is : settled.region ≡ run.mapping
    region_is = same_Some settled.region run.mapping (sym settled.in_region ∙ is.alone x.page past next.1)

    dirty_is : x.dirty ≡ is_dirty_page run.mapping settled_page
    dirty_is = settled.dirty ∙ ap (λ r. is_dirty_page r settled_page) region_is

    module _ (n offset : ℕ) (file_is : stored_file run.mapping ≡ Some (n, offset)) where
      abbrev pub its_move : PageMove
      its_move = page_write n (offset + 4096 * (x.page - run.mapping.first)) settled_page.bytes

      goes_on : so_far (x.page + 1) ≡ so_far from ++ (if x.dirty then its_move ∷ [] else [])
      goes_on =
          run_goes_on p run.mapping run.first from x.page settled_page is_settled next.2 next.0
          ∙ ap (λ ms. so_far from ++ ms) (page_written run.mapping run.first n offset x.page settled_page file_is past ∙ ap (λ b. if b then its_move ∷ [] else []) (sym dirty_is))

      pub goes_on_dirty : x.dirty ≡ true → so_far (x.page + 1) ≡ so_far from ++ its_move ∷ []
      goes_on_dirty dirty = goes_on ∙ ap (λ b. so_far from ++ (if b then its_move ∷ [] else [])) dirty

      pub goes_on_clean : x.dirty ≡ false → so_far (x.page + 1) ≡ so_far from
      goes_on_clean clean = goes_on ∙ ap (λ b. so_far from ++ (if b then its_move ∷ [] else [])) clean ∙ append-nil (so_far from)

      pub one_more : x.dirty ≡ true → length (so_far (x.page + 1)) ≡ length (so_far from) + 1
      one_more dirty = ap length (goes_on_dirty dirty) ∙ length-append (so_far from) (its_move ∷ [])

      -- there is room for one more
      pub has_more : x.dirty ≡ true → length (so_far from) < length (so_far run.end)
      has_more dirty =
          let one = one_more dirty in
          let all = run_longer p run.mapping run.first (x.page + 1) run.end (omega (arith, next.1)) in
          omega (arith, one, all)

      -- its place is in reach
      pub past_first : run.mapping.first ≤ x.page
      past_first = let low = is.from in omega (arith, low, past)

      pub in_reach : offset + 4096 * (x.page - run.mapping.first) ≤ LONGEST_MAPPING
      in_reach =
          let reach : IsInReach (file n offset) run.mapping.pages = subst (λ s. IsInReach s run.mapping.pages) (of_file (keeps_stores (Some run.mapping)) run.mapping.source n offset file_is).1 is.mapping.reach in
          let low = is.from in
          let high = is.to in
          omega (arith, reach, low, high, next.1, past)
