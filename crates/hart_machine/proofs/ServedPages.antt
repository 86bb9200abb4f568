-- Lemmas on the pages of a process in the model after one was made resident (an access to it then succeeds): every other
-- page is as it was, the page is in memory, with its copy number (which names one copy) or a new one; if it was resident,
-- nothing changed.
use Rattle.std.proofs.Common.{◌≡◌, ℕ, ◌⊎◌, cond, Bool, true, false, Option, None, Some, List, refl, ap, sym, subst, ◌∙◌, inl, inr}
use Rattle.std.specs.Prelude.{if◌then◌else◌, not, ◌&&◌, ◌||◌}
use Rattle.std.specs.Cmp.{nat_cmp_total, unsigned_tied}
use Rattle.std.specs.FinMap.Entries.{find, find-put}
use Rattle.std.specs.Ordering.{eq_by_cmp, nat_cmp}
use Rattle.std.proofs.lemmas.Bool.{cases_eq, eq-eqb, ne_eqb}
use Rattle.std.proofs.lemmas.Option.{same_Some}
use Rattle.fault_rules.specs.MadeResident.{gets_frame, is_counted}
use Rattle.process_model.specs.Files.{File}
use Rattle.process_model.specs.PageMap.{get, insert}
use Rattle.process_model.specs.Process.{Page, Process}
use Rattle.process_model.specs.Regions.{keeps_stores, Region}
use Rattle.process_model.specs.Residence.{can_complete, is_resident_page, made_resident_from, parts_from, region_on, taken_over}
use Rattle.sv39_entry.specs.declared.access.Access.{Access}
use Rattle.sv39_entry.specs.declared.access.Access.TheVariants.{Fetch, Load, Store}

-- a page that a store goes through to keeps its frame, and so does one that is not stored to
keeps_frame : (shared : Bool) (access : Access) (r : Option Region) (s : Page) → can_complete access r s ≡ true → gets_frame shared access (Some s) ≡ false
keeps_frame shared Fetch r s through = refl
keeps_frame shared Load r s through = refl
keeps_frame shared Store r s through = elim s.cow as (λ b. (not b && (s.dirty || not (keeps_stores r))) ≡ true → (b && shared) ≡ false) [
  | true ↦ λ never. absurd (cc)
  | false ↦ λ _. refl
] through

module _ (fresh : ℕ) (page : ℕ) where
  -- the page has the copy number that is new, or the one that it had
  abbrev pub CopyIs : Bool → Page → Option Page → Type 0
  CopyIs true b o = b.copy ≡ fresh
  CopyIs false b o = (a : Page) × (o ≡ Some a) × (a.copy ≡ b.copy)

  -- a page of the process afterwards is another one, as it was, or the one that was made resident
  abbrev pub IsPageOf : Process → Bool → Option Page → ℕ → Page → Type 0
  IsPageOf p gets o n b = ((n ≡ page → ⊥) × (get p.settled n ≡ Some b)) ⊎ ((n ≡ page) × CopyIs gets b o)

  with_one : (p : Process) (x : Page) (gets : Bool) (o : Option Page) → CopyIs gets x o → (n : ℕ) (b : Page) → get (insert p.settled page x) n ≡ Some b → IsPageOf p gets o n b
  with_one p x gets o copy n b there = go (cases_eq n page) (sym (find-put nat_cmp nat_cmp_total n page x p.settled.entries) ∙ there) where
    go : (n ≡ page) ⊎ (n ≡ page → ⊥) → cond (eq_by_cmp nat_cmp n page) (Some x) (find nat_cmp n p.settled.entries) ≡ Some b → IsPageOf p gets o n b
    go (inl at) found = inr (at, subst (λ (z : Page). CopyIs gets z o) (same_Some x b (rw (unsigned_tied n page, eq-eqb n page at) at found)) copy)
    go (inr apart) found = inl (apart, rw (unsigned_tied n page, ne_eqb n page apart) at found)

  taken_copy : (shared : Bool) (access : Access) (r : Option Region) (s : Page) → can_complete access r s ≡ false → CopyIs (gets_frame shared access (Some s)) (taken_over fresh shared r s) (Some s)
  taken_copy shared Fetch r s stops = absurd (cc)
  taken_copy shared Load r s stops = absurd (cc)
  taken_copy shared Store r s stops = elim (parts_from shared s) as (λ b. parts_from shared s ≡ b → CopyIs b (taken_over fresh shared r s) (Some s)) [
    | true ↦ λ e. ap (λ b. if b then fresh else s.copy) e
    | false ↦ λ e. (s, refl, sym (ap (λ b. if b then fresh else s.copy) e))
  ] refl

  -- each page
  pub page_after : (files : List File) (shared : Bool) (p : Process) (access : Access) (o : Option Page) → get p.settled page ≡ o → (n : ℕ) (b : Page)
      → get (made_resident_from files fresh shared p access page o).settled n ≡ Some b → IsPageOf p (gets_frame shared access o) o n b
  page_after files shared p access None is n b there = with_one p _ true None refl n b there
  page_after files shared p access (Some s) is n b there = elim (can_complete access (region_on p page) s) as (λ t. can_complete access (region_on p page) s ≡ t → IsPageOf p (gets_frame shared access (Some s)) (Some s) n b) [
    | true ↦ λ e. rw (keeps_frame shared access (region_on p page) s e) (as_it_was (cases_eq n page) (rw e at there))
    | false ↦ λ e. with_one p (taken_over fresh shared (region_on p page) s) (gets_frame shared access (Some s)) (Some s) (taken_copy shared access (region_on p page) s e) n b (rw e at there)
  ] refl where
    as_it_was : (n ≡ page) ⊎ (n ≡ page → ⊥) → get p.settled n ≡ Some b → IsPageOf p false (Some s) n b
    as_it_was (inl at) found = inr (at, (s, refl, ap (λ (z : Page). z.copy) (same_Some s b (sym is ∙ ap (get p.settled) (sym at) ∙ found))))
    as_it_was (inr apart) found = inl (apart, found)

  put_here : (p : Process) (x : Page) → get (insert p.settled page x) page ≡ Some x
  put_here p x = find-put nat_cmp nat_cmp_total page page x p.settled.entries ∙ rw (unsigned_tied page page, eq-eqb page page refl) refl

  -- the page is settled
  pub page_there : (files : List File) (shared : Bool) (p : Process) (access : Access) (o : Option Page) → get p.settled page ≡ o
      → (z : Page) × (get (made_resident_from files fresh shared p access page o).settled page ≡ Some z)
  page_there files shared p access None is = (_, put_here p _)
  page_there files shared p access (Some s) is = elim (can_complete access (region_on p page) s) as (λ t. can_complete access (region_on p page) s ≡ t → (z : Page) × (get (made_resident_from files fresh shared p access page (Some s)).settled page ≡ Some z)) [
    | true ↦ λ e. (s, rw e is)
    | false ↦ λ e. (taken_over fresh shared (region_on p page) s, rw e (put_here p (taken_over fresh shared (region_on p page) s)))
  ] refl

  -- whether another process has the page is of account only where its frame's count is read
  pub same_made : (files : List File) (c d : Bool) (p : Process) (access : Access) (o : Option Page) → (is_counted access o ≡ true → c ≡ d)
      → made_resident_from files fresh c p access page o ≡ made_resident_from files fresh d p access page o
  same_made files c d p access None same = refl
  same_made files c d p Fetch (Some s) same = refl
  same_made files c d p Load (Some s) same = refl
  same_made files c d p Store (Some s) same = elim s.cow as (λ b. s.cow ≡ b → made_resident_from files fresh c p Store page (Some s) ≡ made_resident_from files fresh d p Store page (Some s)) [
    | true ↦ λ e. ap (λ (z : Bool). made_resident_from files fresh z p Store page (Some s)) (same e)
    | false ↦ λ e. rw e refl
  ] refl

  -- a resident page is as it was, and keeps its frame
  pub resident_stays : (files : List File) (shared : Bool) (p : Process) (access : Access) (o : Option Page) → is_resident_page access (region_on p page) o ≡ true
      → (made_resident_from files fresh shared p access page o ≡ p) × (gets_frame shared access o ≡ false)
  resident_stays files shared p access None never = absurd (cc)
  resident_stays files shared p access (Some s) through = (rw through refl, keeps_frame shared access (region_on p page) s through)
