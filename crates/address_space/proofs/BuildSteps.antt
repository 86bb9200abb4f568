-- Lemmas on a build page by page within one part (a region with its first bytes): the next page can be added (`can_add`), the
-- credits suffice, and after it one page more of the part is filled (`next_fills`).
use Rattle.std.proofs.Common.{◌≡◌, ℕ, ◌+◌, ◌-◌, ◌*◌, ◌<◌, ◌≤◌, inl, inr, refl, ap, sym, subst, ◌∙◌, arith, List, [], ◌∷◌, drop}
use Rattle.std.specs.Prelude.{All, Contains}
use Rattle.std.proofs.lemmas.Bool.{cases_eq}
use Rattle.std.proofs.lemmas.Option.{same_Some}
use Rattle.frame_store.specs.Tallies.{spent_is, spent_none, spent_on}
use Rattle.frame_store.specs.View.{View, IsSole}
use Rattle.process_model.specs.Bytes.{padded}
use Rattle.process_model.specs.Frames.{tables_needed, tables_of}
use Rattle.process_model.proofs.ImageNeed.{run_length, run_numbers}
use Rattle.process_model.specs.ImageProcess.{page_run}
use Rattle.process_model.specs.PageMap as pages
use Rattle.process_model.specs.Process.{Process}
use Rattle.process_model.specs.Regions.{region_at}
use Rattle.sv39_entry.specs.Address.{page_of}
use Rattle.sv39_entry.specs.Word.{ppn}
use Rattle.sv39_entry.specs.Schemes.{page_limit, of_scheme, trapframe_page}
use Rattle.sv39_entry.specs.declared.scheme.Scheme.{Scheme}
use Rattle.table_walk.specs.TableCounts.{AreTablesOf}
use Rattle.table_walk.specs.Tables.{Tables, leaf_node, missing}
use Rattle.address_space.specs.Parts.{CanFill, FillsPages, OwnsAlone, pages_need, part_pages, region_in, with_settled, with_pages}
use Rattle.address_space.specs.Steps.{AddsPage, CanAdd, settled_with}
use Rattle.address_space.specs.declared.part.Part.{Part}
use Rattle.address_space.proofs.BuildPages.{Pages, in_run, other_stays, page_numbers, run_next, run_split, same_regions, tables_next, tables_up_to, with_both, same_scheme}
use Rattle.address_space.proofs.Owned.{one_ppn}

-- how many tables are missing on the way to a page
abbrev pub CountsMissing : Scheme → Type 0
CountsMissing z = (t : Tables) (pages : List ℕ) (page : ℕ) → AreTablesOf z t pages → All (λ n. n < page_limit z) pages → page < page_limit z → missing z t page ≡ tables_needed z (page ∷ pages) - tables_needed z pages

-- no other seat has a frame of the page that was added
added_alone : (v w : View) (root trapframe : ℕ) (t u : Tables) (p : Process) (page : ℕ) (bytes : List ℕ) (f : ℕ) → AddsPage v w root trapframe t u p page bytes f
    → ((g : ℕ) → IsSole v g → IsSole w g) → OwnsAlone v t → OwnsAlone w u
added_alone v w root trapframe t u p page bytes f adds soles alone g j (inl table) other = (((adds.stands 0).tables).own j g table).1
added_alone v w root trapframe t u p page bytes f adds soles alone g j (inr (y, leaf, names)) other = elim (cases_eq j (leaf_node page)) [
  | inl here ↦
      let same : y ≡ adds.on.0 = same_Some y adds.on.0 (sym (rw here at leaf) ∙ adds.on.1) in
      let frame : g ≡ f = one_ppn g f (sym names ∙ ap ppn same ∙ adds.on.2) in
      rw frame adds.sole
  | inr apart ↦ soles g (alone g j (inr (y, sym (adds.others j apart) ∙ leaf, names)) other)
]

-- the place of a page in its part
pub place : (first pages number page : ℕ) → number < first + pages → first ≤ number → page ≡ page_of (number * 4096) → (number - first < pages) × (page ≡ first + (number - first))
place first pages number page less from is = (omega (arith, less, from), omega (arith, is, from))

module _ (v : View) (root trapframe : ℕ) (t : Tables) (p : Process) (part : Part) (can : CanFill v root trapframe t p part) where
  abbrev run : ℕ → Pages
  run k = page_run part.region.first part.bytes.now k

  pub fills_none : FillsPages v v root trapframe t p []
  fills_none = record {
    after = can.before;
    saved = refl;
    spends = record { credits = omega arith; tallies = spent_is v.tallies v.tallies 0 _ (omega arith) (spent_none v.tallies) };
  }

  module _ (k : ℕ) (less : k < part.region.pages) (w : View) (u : Tables) (fills : FillsPages v w root trapframe u p (run k)) (page : ℕ) (at : page ≡ part.region.first + k) where
    abbrev before : Process
    before = with_pages p (run k)

    not_in_run : Contains (page_numbers (run k)) page → ⊥
    not_in_run h =
        let inside = in_run k part.region.first page (subst (λ ns. Contains ns page) (run_numbers k part.region.first part.bytes.now) h) in
        omega (arith, inside.1, at)

    pub can_add : CanAdd w root trapframe u before page (region_in part)
    can_add = record {
      stands = fills.after.stands;
      unsettled = other_stays (run k) p page not_in_run ∙ can.unsettled page (omega (arith, at));
      in_region = ap (λ rs. region_at rs page) (same_regions (run k) p) ∙ can.in_region page (omega (arith, at)) (omega (arith, at, less));
      leafy = can.leafy;
      low = subst (λ z. page < trapframe_page z) (sym (same_scheme (run k) p)) (let low = can.low in omega (arith, at, less, low));
    }

    abbrev entry : ℕ × List ℕ
    entry = (part.region.first + k, padded 4096 (drop (4096 * k) part.bytes.now))

    after_is : with_pages p (run (k + 1)) ≡ with_settled before entry
    after_is = ap (with_pages p) (run_next k part.region.first part.bytes.now) ∙ with_both (run k) (entry ∷ []) p

    need_is : pages_need p (run k) ≡ k + (tables_of before - tables_of p)
    need_is = ap (λ n. n + (tables_of before - tables_of p)) (run_length k part.region.first part.bytes.now)

    need_next : pages_need p (run (k + 1)) ≡ k + 1 + (tables_of (with_settled before entry) - tables_of p)
    need_next =
        ap (λ n. n + (tables_of (with_pages p (run (k + 1))) - tables_of p)) (run_length (k + 1) part.region.first part.bytes.now)
        ∙ ap (λ q. k + 1 + (tables_of q - tables_of p)) after_is

    module _ (law : CountsMissing before.scheme) where
      missing_is : missing before.scheme u page ≡ tables_of (with_settled before entry) - tables_of before
      missing_is =
          let low = can.low in
          let stands = fills.after.stands in
          law u (pages.keys before.tabled) page stands.tabled (λ i d inside. omega (arith, stands.tabled_low i d inside, of_scheme before.scheme)) (omega (arith, at, less, low, ap trapframe_page (same_scheme (run k) p), of_scheme before.scheme))
          ∙ ap (λ n. tables_needed before.scheme (n ∷ pages.keys before.tabled) - tables_of before) at ∙ ap (λ n. n - tables_of before) (sym (tables_next before entry))

      tables_grow : tables_of before ≤ tables_of (with_settled before entry)
      tables_grow = tables_up_to (entry ∷ []) before

      tables_grew : tables_of p ≤ tables_of before
      tables_grew = tables_up_to (run k) p

      tables_end : tables_of (with_settled before entry) ≤ tables_of (with_pages p (part_pages part))
      tables_end =
          let n = part.region.pages - (k + 1) in
          let all : k + 1 + n ≡ part.region.pages = omega (arith, less) in
          let rest = page_run (part.region.first + (k + 1)) (drop (4096 * (k + 1)) part.bytes.now) n in
          let whole : with_pages p (part_pages part) ≡ with_pages (with_settled before entry) rest =
          ap (λ m. with_pages p (run m)) (sym all) ∙ ap (with_pages p) (run_split (k + 1) n part.region.first part.bytes.now) ∙ with_both (run (k + 1)) rest p ∙ ap (λ q. with_pages q rest) after_is in
          rw whole (tables_up_to rest (with_settled before entry))

      pub enough_left : pages_need p (part_pages part) ≤ v.credits → 1 + missing before.scheme u page ≤ w.credits
      enough_left enough =
          let all = run_length part.region.pages part.region.first part.bytes.now in
          let missing_now = missing_is in
          let up = tables_grow in
          let grew = tables_grew in
          let last = tables_end in
          let spent = fills.spends.credits in
          let need = need_is in
          omega (arith, all, missing_now, up, grew, last, spent, need, less, enough)

      pub next_fills : (x : View) (y : Tables) (bytes : List ℕ) (f : ℕ) → padded 4096 bytes ≡ padded 4096 (drop (4096 * k) part.bytes.now) → AddsPage w x root trapframe u y before page bytes f
          → ((g : ℕ) → IsSole w g → IsSole x g) → FillsPages v x root trapframe y p (run (k + 1))
      next_fills x y bytes f same adds soles =
          let process : settled_with 0 bytes before page ≡ with_pages p (run (k + 1)) =
          ap (λ n. with_settled before (n, padded 4096 bytes)) at ∙ ap (λ bs. with_settled before (part.region.first + k, bs)) same ∙ sym after_is in
          let missing_now = missing_is in
          let up = tables_grow in
          let grew = tables_grew in
          let need = need_is in
          let needs = need_next in
          let spent = fills.spends in
          let spend = adds.spends in
          record {
            after = record {
              stands = rw (← process) (adds.stands 0);
              alone = added_alone w x root trapframe u y before page bytes f adds soles fills.after.alone;
            };
            saved = adds.saved ∙ fills.saved;
            spends = record {
              credits = omega (arith, spent.credits, spend.credits, missing_now, up, grew, need, needs);
              tallies = spent_is v.tallies x.tallies (pages_need p (run k) + (1 + missing before.scheme u page)) (pages_need p (run (k + 1))) (omega (arith, missing_now, up, grew, need, needs))
                  (spent_on v.tallies w.tallies x.tallies (pages_need p (run k)) (1 + missing before.scheme u page) spent.tallies spend.tallies);
            };
          }
