-- Lemmas on a build part by part (a part is a region with its first bytes): once the pages of the first parts are filled, the
-- next part can be filled (`can_fill`) and the credits suffice for it; after it one part more is filled (`part_fills`).
use Rattle.std.proofs.Common.{◌≡◌, ℕ, zero, suc, true, false, ◌+◌, ◌<◌, ◌≤◌, Some, inl, inr, refl, ap, sym, subst, ◌∙◌, arith, List, [], ◌∷◌, ◌++◌, length, map, get_or, take, drop}
use Rattle.std.specs.Prelude.{Contains}
use Rattle.std.proofs.lemmas.Bool.Decides.{nat_tests}
use Rattle.std.proofs.lemmas.Grind.{flat_map-append}
use Rattle.std.proofs.lemmas.List.{length-append, map-append, take-append-drop}
use Rattle.std.proofs.lemmas.List.Concat.{flat_map-cons}
use Rattle.std.proofs.lemmas.List.Elements.{Contains-append_cases}
use Rattle.frame_store.specs.Tallies.{spent_is, spent_none, spent_on}
use Rattle.frame_store.specs.View.{View}
use Rattle.process_model.specs.Bytes.{numbers_from}
use Rattle.process_model.specs.Frames.{tables_of}
use Rattle.process_model.proofs.ImageNeed.{run_numbers}
use Rattle.process_model.specs.Process.{Process, heap_of}
use Rattle.process_model.specs.Regions.{Region, end_of, holds_page, region_at}
use Rattle.table_walk.specs.Tables.{Tables}
use Rattle.address_space.specs.Layouts.{last_page}
use Rattle.address_space.specs.Parts.{AreParts, bare_process, CanFill, FillsPages, IsAscending, numbers_of, pages_need, pages_of, part_pages, region_in, regions_in, StandsAlone, with_pages}
use Rattle.address_space.specs.declared.part.Part.{Part}
use Rattle.address_space.proofs.BuildPages.{Pages, in_run, other_stays, same_regions, tables_up_to, with_both, same_scheme}
use Rattle.address_space.proofs.Found.{first_found, first_passed, in_front}
use Rattle.address_space.proofs.NeededParts.{begins, pages_more}
use Rattle.process_model.proofs.ValueSets.{none_in}
use Rattle.sv39_entry.specs.declared.scheme.Scheme.{Scheme}
use Rattle.sv39_entry.specs.Schemes.{trapframe_page}

-- ---- pages of some parts, and then of others

-- what they take
pub need_both : (xs ys : Pages) (p : Process) → pages_need p (xs ++ ys) ≡ pages_need p xs + pages_need (with_pages p xs) ys
need_both xs ys p =
    let sizes = length-append xs ys in
    let tables = ap tables_of (with_both xs ys p) in
    let first = tables_up_to xs p in
    let second = tables_up_to ys (with_pages p xs) in
    omega (arith, sizes, tables, first, second)

pub fills_both : (v w x : View) (root trapframe : ℕ) (u y : Tables) (p : Process) (xs ys : Pages) → FillsPages v w root trapframe u p xs
    → FillsPages w x root trapframe y (with_pages p xs) ys → FillsPages v x root trapframe y p (xs ++ ys)
fills_both v w x root trapframe u y p xs ys first second =
    let need = need_both xs ys p in
    record {
      after = rw (with_both xs ys p) second.after;
      saved = second.saved ∙ first.saved;
      spends = record {
        credits = omega (arith, first.spends.credits, second.spends.credits, need);
        tallies = spent_is v.tallies x.tallies (pages_need p xs + pages_need (with_pages p xs) ys) (pages_need p (xs ++ ys)) (omega (arith, need))
            (spent_on v.tallies w.tallies x.tallies (pages_need p xs) (pages_need (with_pages p xs) ys) first.spends.tallies second.spends.tallies);
      };
    }

-- ---- where parts stand

numbers_cons : (p : Part) (ps : List Part) → numbers_of (p ∷ ps) ≡ numbers_from p.region.first p.region.pages ++ numbers_of ps
numbers_cons p ps =
    ap (map (λ (e : ℕ × List ℕ). e.0)) (flat_map-cons part_pages p ps) ∙ map-append (λ (e : ℕ × List ℕ). e.0) (part_pages p) (pages_of ps)
    ∙ ap (λ ns. ns ++ numbers_of ps) (run_numbers p.region.pages p.region.first p.bytes.now)

last_above : (ps : List Part) (end i : ℕ) → IsAscending end ps → end ≤ last_page end (regions_in (take i ps))
last_above [] end zero up = omega arith
last_above [] end (suc i) up = omega arith
last_above (p ∷ ps) end zero up = omega arith
last_above (p ∷ ps) end (suc i) up = let rest = last_above ps (end_of (region_in p)) i up.1 in let here = up.0 in omega (arith, rest, here)

-- pages of the first parts lie below the end of the last of them
pub numbers_below : (ps : List Part) (end i x : ℕ) → IsAscending end ps → Contains (numbers_of (take i ps)) x → x < last_page end (regions_in (take i ps))
numbers_below [] end zero x up h = absurd (none_in x h)
numbers_below [] end (suc i) x up h = absurd (none_in x h)
numbers_below (p ∷ ps) end zero x up h = absurd (none_in x h)
numbers_below (p ∷ ps) end (suc i) x up h =
    elim (Contains-append_cases (numbers_from p.region.first p.region.pages) (numbers_of (take i ps)) x (subst (λ ns. Contains ns x) (numbers_cons p (take i ps)) h)) [
      | inl here ↦ let inside = in_run p.region.pages p.region.first x here in let rest = last_above ps (end_of (region_in p)) i up.1 in omega (arith, inside.1, rest)
      | inr later ↦ numbers_below ps (end_of (region_in p)) i x up.1 later
    ]

holds : (r : Region) (page : ℕ) → r.first ≤ page → page < end_of r → holds_page r page ≡ true
holds r page from below = grind (arith, nat_tests)

passes : (r : Region) (page : ℕ) → end_of r ≤ page → holds_page r page ≡ false
passes r page past = grind (arith, nat_tests)

starts_after : (ps : List Part) (end i : ℕ) (d : Part) → IsAscending end ps → i < length ps → end ≤ (get_or ps i d).region.first
starts_after [] end i d up less = absurd (omega (arith, less))
starts_after (p ∷ ps) end zero d up less = up.0
starts_after (p ∷ ps) end (suc i) d up less = let rest = starts_after ps (end_of (region_in p)) i d up.1 (omega (arith, less)) in let here = up.0 in omega (arith, rest, here)

in_part : (ps : List Part) (end i page : ℕ) (d : Part) → IsAscending end ps → i < length ps → (get_or ps i d).region.first ≤ page → page < end_of (region_in (get_or ps i d))
    → region_at (regions_in ps) page ≡ Some (region_in (get_or ps i d))
in_part [] end i page d up less from below = absurd (omega (arith, less))
in_part (p ∷ ps) end zero page d up less from below = first_found (region_in p) (regions_in ps) page (holds (region_in p) page from below)
in_part (p ∷ ps) end (suc i) page d up less from below =
    let after = starts_after ps (end_of (region_in p)) i d up.1 (omega (arith, less)) in
    first_passed (region_in p) (regions_in ps) page (passes (region_in p) page (omega (arith, after, from)))
    ∙ in_part ps (end_of (region_in p)) i page d up.1 (omega (arith, less)) from below

-- ---- one part more

module _ (z : Scheme) (v : View) (root trapframe : ℕ) (ps : List Part) (are : AreParts z ps) where
  pub fills_bare : (t : Tables) → StandsAlone v root trapframe t (bare_process z ps) → FillsPages v v root trapframe t (bare_process z ps) []
  fills_bare t stands = record {
    after = stands;
    saved = refl;
    spends = record { credits = omega arith; tallies = spent_is v.tallies v.tallies 0 _ (omega arith) (spent_none v.tallies) };
  }

  module _ (i : ℕ) (d : Part) (less : i < length ps) (w : View) (u : Tables) (fills : FillsPages v w root trapframe u (bare_process z ps) (pages_of (take i ps))) where
    abbrev part : Part
    part = get_or ps i d

    abbrev before : Process
    before = with_pages (bare_process z ps) (pages_of (take i ps))

    pub can_fill : CanFill w root trapframe u before part
    can_fill = record {
      before = fills.after;
      unsettled = λ page from.
          other_stays (pages_of (take i ps)) (bare_process z ps) page
          (λ h. let below = numbers_below ps 0 i page are.ascending h in let next = begins ps i d less are.ascending in omega (arith, below, next, from));
      in_region = λ page from below.
          ap (λ rs. region_at rs page) (same_regions (pages_of (take i ps)) (bare_process z ps))
          ∙ in_front (regions_in ps) (heap_of (bare_process z ps) ∷ []) page (region_in part) (in_part ps 0 i page d are.ascending less from below);
      leafy = are.leafy i d less;
      low = subst (λ s. end_of (region_in part) ≤ trapframe_page s) (sym (same_scheme (pages_of (take i ps)) (bare_process z ps))) (are.low i d less);
    }

    need_part : pages_need (bare_process z ps) (pages_of (take (i + 1) ps)) ≡ pages_need (bare_process z ps) (pages_of (take i ps)) + pages_need before (part_pages part)
    need_part = ap (pages_need (bare_process z ps)) (pages_more ps i d less) ∙ need_both (pages_of (take i ps)) (part_pages part) (bare_process z ps)

    need_all : pages_need (bare_process z ps) (pages_of ps) ≡ pages_need (bare_process z ps) (pages_of (take (i + 1) ps)) + pages_need (with_pages (bare_process z ps) (pages_of (take (i + 1) ps))) (pages_of (drop (i + 1) ps))
    need_all =
        ap (λ qs. pages_need (bare_process z ps) (pages_of qs)) (sym (take-append-drop (i + 1) ps)) ∙ ap (pages_need (bare_process z ps)) (flat_map-append part_pages (take (i + 1) ps) (drop (i + 1) ps))
        ∙ need_both (pages_of (take (i + 1) ps)) (pages_of (drop (i + 1) ps)) (bare_process z ps)

    pub part_enough : pages_need (bare_process z ps) (pages_of ps) ≤ v.credits → pages_need before (part_pages part) ≤ w.credits
    part_enough enough =
        let here = need_part in
        let all = need_all in
        let spent = fills.spends.credits in
        omega (arith, enough, here, all, spent)

    pub part_fills : (x : View) (y : Tables) → FillsPages w x root trapframe y before (part_pages part) → FillsPages v x root trapframe y (bare_process z ps) (pages_of (take (i + 1) ps))
    part_fills x y more = rw (pages_more ps i d less) (fills_both v w x root trapframe u y (bare_process z ps) (pages_of (take i ps)) (part_pages part) fills more)
