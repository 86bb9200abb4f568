-- Lemmas about the dirty mark (D: made ready for a store): making a page resident for a fetch or a load sets none; pages
-- without it are not written back; and after a service the page is resident, for a store without copy-on-write mark and, in a
-- writable shared mapping, with the dirty mark.
use Rattle.std.proofs.Common.{◌≡◌, ◌≢◌, ℕ, Bool, true, false, not, ◌&&◌, ◌||◌, ◌-◌, ◌*◌, ◌<◌, ◌≤◌, inl, inr, refl, ap, sym, ◌∙◌, arith, List, [], ◌∷◌, Option, None, Some, cond}
use Rattle.std.specs.Prelude.{T, Ok, fold, nat_le, nat_lt}
use Rattle.std.specs.Ordering.{nat_cmp}
use Rattle.std.specs.Cmp.{unsigned_tied}
use Rattle.std.specs.FinMap.Entries.{find, is_sorted}
use Rattle.std.proofs.lemmas.Bool.{cases_eq, eq-eqb, leb-true, ltb-true, and_parts, ne_eqb}
use Rattle.std.proofs.lemmas.Option.{same_Some}
use Rattle.process_model.specs.Environment.{Environment, Progress, is_shared_page, need_at, resident_at, unless_dry, unless_resident}
use Rattle.process_model.specs.Files.{File}
use Rattle.process_model.specs.Insertion.{inserted_here, inserted_other}
use Rattle.process_model.specs.Mappings.{is_written_back, page_written, with_written, written_back}
use Rattle.process_model.specs.PageMap.{get}
use Rattle.process_model.specs.Process.{Page, Process}
use Rattle.process_model.specs.Regions.{Region, keeps_stores}
use Rattle.process_model.specs.Residence.{can_complete, initial_page, is_resident, is_resident_page, leaves_mark, made_resident, made_resident_from, region_on}
use Rattle.process_laws.proofs.EveryChange.{same_Ok}
use Rattle.process_laws.proofs.PageCopies.{first, found_above, second}
use Rattle.process_laws.proofs.Standing.{made_stands}
use Rattle.sv39_entry.specs.declared.access.Access.{Access}
use Rattle.sv39_entry.specs.declared.access.Access.TheVariants.{Fetch, Load, Store}

-- a load leaves no mark

no_mark : (access : Access) (r : Option Region) → access ≢ Store → leaves_mark access r ≡ false
no_mark Fetch r other = refl
no_mark Load r other = refl
no_mark Store r other = absurd (other refl)

loads_go_through : (access : Access) (r : Option Region) (s : Page) → access ≢ Store → can_complete access r s ≡ true
loads_go_through Fetch r s other = refl
loads_go_through Load r s other = refl
loads_go_through Store r s other = absurd (other refl)

abbrev WasMarked : Process → ℕ → Type 0
WasMarked p at = (o : Page) × (get p.settled at ≡ Some o) × (o.dirty ≡ true)

module _ (files : List File) (fresh page at : ℕ) (shared : Bool) (p : Process) (access : Access) (s : Page) (other : access ≢ Store) where
  abbrev new_page : Page
  new_page = record { bytes = initial_page files p page; copy = fresh; cow = false; dirty = leaves_mark access (region_on p page) }

  marked_from : (o : Option Page) → get p.settled page ≡ o → get (made_resident_from files fresh shared p access page o).settled at ≡ Some s → s.dirty ≡ true → WasMarked p at
  marked_from None e there mark = elim (cases_eq at page) [
    | inl same ↦ absurd (
        let is : new_page ≡ s = same_Some new_page s (sym (inserted_here page new_page p.settled at same) ∙ there) in
        let clear : s.dirty ≡ false = ap (λ (x : Page). x.dirty) (sym is) ∙ no_mark access (region_on p page) other in
        let both = sym mark ∙ clear in cc)
    | inr apart ↦ (s, sym (inserted_other page new_page p.settled at apart) ∙ there, mark)
  ]
  marked_from (Some x) e there mark = (s, rw (loads_go_through access (region_on p page) x other) at there, mark)

  pub mark_was_there : get (made_resident files fresh shared p access page).settled at ≡ Some s → s.dirty ≡ true → WasMarked p at
  mark_was_there there mark = marked_from (get p.settled page) refl there mark

-- pages without the mark are not written back

never : (b : Bool) → (b && false) ≡ false
never true = refl
never false = refl

module _ (m : Region) (from end : ℕ) where
  abbrev AreClear : List (ℕ × Page) → Type 0
  AreClear es = (page : ℕ) (s : Page) → find nat_cmp page es ≡ Some s → from ≤ page → page < end → s.dirty ≡ false

  one_stays : (files : List File) (e : ℕ × Page) → (from ≤ e.0 → e.0 < end → (e.1).dirty ≡ false) → with_written m from end files e ≡ files
  one_stays files e clear =
      elim (nat_le from e.0 && nat_lt e.0 end) as (λ b. (nat_le from e.0 && nat_lt e.0 end) ≡ b
      → cond (b && is_written_back m e.1) (page_written m.source files (4096 * (e.0 - m.first)) (e.1).bytes) files ≡ files) [
        | true ↦ λ inside.
            let parts = and_parts (nat_le from e.0) (nat_lt e.0 end) inside in
            let none : is_written_back m e.1 ≡ false = ap (λ b. keeps_stores (Some m) && b) (clear (leb-true from e.0 parts.0) (ltb-true e.0 end parts.1)) ∙ never (keeps_stores (Some m)) in
            ap (λ b. cond b (page_written m.source files (4096 * (e.0 - m.first)) (e.1).bytes) files) none
        | false ↦ λ _. refl
      ] refl

  all_stay : (es : List (ℕ × Page)) (files : List File) → T (is_sorted nat_cmp es) → AreClear es → fold (with_written m from end) files es ≡ files
  all_stay [] files rising clear = refl
  all_stay (e ∷ es) files rising clear =
      ap (λ fs. fold (with_written m from end) fs es) (one_stays files e (clear e.0 e.1 (rw (unsigned_tied e.0 e.0, eq-eqb e.0 e.0 refl) refl)))
      ∙ all_stay es files (second _ _ rising) (λ page s there.
      let above = found_above e.0 page s es (first _ _ rising) there in
      clear page s (rw (unsigned_tied page e.0, ne_eqb page e.0 (λ same. omega (arith, above, same))) there))

pub clear_pages_stay : (files : List File) (p : Process) (m : Region) (from end : ℕ) → ((page : ℕ) (s : Page) → get p.settled page ≡ Some s → from ≤ page → page < end → s.dirty ≡ false)
    → written_back files p m from end ≡ files
clear_pages_stay files p m from end clear = all_stay m from end p.settled.entries files p.settled.sorted clear

-- a service

module _ (a : Environment) (access : Access) (page : ℕ) (g h : Progress) where
  wet_stands : (need : ℕ) (dry : Bool) → unless_dry a access page g need dry ≡ Ok h → is_resident h.process access page ≡ true
  wet_stands need true e = absurd (cc)
  wet_stands need false e =
      ap (λ (x : Progress). is_resident x.process access page) (sym (same_Ok _ h e)) ∙ made_stands a.files g.fresh (is_shared_page a g.process page) g.process access page

  now_stands : (b : Bool) → is_resident g.process access page ≡ b → unless_resident a access page g b ≡ Ok h → is_resident h.process access page ≡ true
  now_stands true there e = ap (λ (x : Progress). is_resident x.process access page) (sym (same_Ok g h e)) ∙ there
  now_stands false there e = wet_stands (need_at a access page g.process) _ e

  pub served_stands : resident_at a access page g ≡ Ok h → is_resident h.process access page ≡ true
  unfolding resident_at
  served_stands e = now_stands (is_resident g.process access page) refl e

stores_through : (fork stored keeps : Bool) → (not fork && (stored || not keeps)) ≡ true → (fork ≡ false) × (keeps ≡ true → stored ≡ true)
stores_through true stored keeps e = absurd (cc)
stores_through false true keeps e = (refl, λ _. refl)
stores_through false false true e = absurd (cc)
stores_through false false false e = (refl, λ k. absurd (cc))

-- a page that a store goes through to
pub store_marks : (p : Process) (page : ℕ) (s : Page) → is_resident p Store page ≡ true → get p.settled page ≡ Some s → (s.cow ≡ false) × (keeps_stores (region_on p page) ≡ true → s.dirty ≡ true)
store_marks p page s stands there = stores_through s.cow s.dirty (keeps_stores (region_on p page)) (sym (ap (is_resident_page Store (region_on p page)) there) ∙ stands)
