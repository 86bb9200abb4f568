-- Lemmas for `take_over`, by which a settled page (one in memory) is readied for a store: what the model makes of it and needs;
-- the copy-on-write mark (copy-on-write) is removed or was not there; then the dirty mark (D) is set (`resides_marked`), or is
-- not due (`resides_dirty`).
use Rattle.std.proofs.Common.{◌≡◌, ◌≢◌, ℕ, Bool, true, false, not, ◌&&◌, ◌||◌, ◌==◌, ◌+◌, inl, inr, refl, add-zero, ap, sym, subst, ◌∙◌, List, [], ◌∷◌, Option, None, Some}
use Rattle.std.specs.Prelude.{if◌then◌else◌, is_some, option_to_list}
use Rattle.std.proofs.lemmas.Bool.{and_parts, cases_eq, eq-eqb, ne_eqb}
use Rattle.std.proofs.lemmas.List.{append-nil}
use Rattle.std.proofs.lemmas.Option.{same_Some}
use Rattle.address_space.specs.Agreement.{Body, IsFrameOfPage, IsSpace, one_frame}
use Rattle.address_space.specs.SettledLists.{IsSettledPage}
use Rattle.address_space.specs.Steps.{CanOwn, CanWrite, HasOwned, MarksStored, own_need, RunsDry, TakesFrames}
use Rattle.address_space.specs.declared.settled_pages.SettledPage.{SettledPage}
use Rattle.frame_store.specs.Tallies.{taken_none, taken_on}
use Rattle.frame_store.specs.View.{IsSole, references, taken, View}
use Rattle.process_model.specs.Files.{File}
use Rattle.process_model.specs.Frames.{take_over_need, resident_need, resident_need_of, unless_through}
use Rattle.process_model.specs.Insertion.{inserted_here, put_again, put_back}
use Rattle.process_model.specs.PageMap.{get, insert}
use Rattle.process_model.specs.Process.{Page, Process}
use Rattle.process_model.specs.Regions.{is_shared_kind, keeps_stores, Region}
use Rattle.process_model.specs.Residence.{can_complete, made_resident, made_resident_from, marked_stored, parts_from, region_on, taken_over, taken_over_unless, unmarked, with_page}
use Rattle.sv39_entry.specs.declared.access.Access.TheVariants.{Store}
use Rattle.table_walk.specs.Tables.{Tables}
use Rattle.fault_rules.specs.MadeResident.{CanMakeResident, gets_frame, IsOnItsFrame, is_counted, is_shared_by, MakesResident}
use Rattle.fault_rules.specs.TakeOver.{Unshares}
use Rattle.fault_rules.proofs.Pages.{page_sole, recopied}

-- ---- words

from_not : (b : Bool) → not b ≡ false → b ≡ true
from_not true lacks = refl
from_not false lacks = sym lacks

-- a page without the copy-on-write mark loses nothing
unmarked_same : (fresh : ℕ) (shared : Bool) (s : Page) → s.cow ≡ false → unmarked fresh shared s ≡ s
unmarked_same fresh shared s none =
    ap (λ (b : Bool). record s { copy = if b && shared then fresh else s.copy; cow = false }) none ∙ ap (λ (b : Bool). record s { cow = b }) (sym none)

-- a mark that is there, or that no store needs
marked_same : (r : Option Region) (s : Page) → (s.dirty || not (keeps_stores r)) ≡ true → marked_stored r s ≡ s
marked_same r s is = ap (λ (b : Bool). record s { dirty = b }) (go s.dirty (keeps_stores r) is)
  where
    go : (a b : Bool) → (a || not b) ≡ true → (a || b) ≡ a
    go true b is = refl
    go false true is = sym is
    go false false is = refl

-- ---- what the model says of a store to a settled page

module _ (p : Process) (page : ℕ) (s : Page) (settled : get p.settled page ≡ Some s) where
  -- a page that a store goes through to is taken over as it is
  taken_same : (fresh : ℕ) (shared : Bool) → can_complete Store (region_on p page) s ≡ true → with_page p page (taken_over fresh shared (region_on p page) s) ≡ p
  taken_same fresh shared through =
      let parts = go s.cow (s.dirty || not (keeps_stores (region_on p page))) through in
      let same : taken_over fresh shared (region_on p page) s ≡ s = ap (marked_stored (region_on p page)) (unmarked_same fresh shared s parts.0) ∙ marked_same (region_on p page) s parts.1 in
      ap (λ m. record p { settled = m }) (ap (λ y. insert p.settled page y) same ∙ put_back p.settled page s settled)
    where
      go : (a b : Bool) → (not a && b) ≡ true → (a ≡ false) × (b ≡ true)
      go true b is = absurd (cc)
      go false b is = (refl, is)

  taken_unless : (fresh : ℕ) (shared b : Bool) → can_complete Store (region_on p page) s ≡ b → taken_over_unless fresh shared p page s b ≡ with_page p page (taken_over fresh shared (region_on p page) s)
  taken_unless fresh shared true is = sym (taken_same fresh shared is)
  taken_unless fresh shared false is = refl

  pub made_is : (files : List File) (fresh : ℕ) (shared : Bool) → made_resident files fresh shared p Store page ≡ with_page p page (taken_over fresh shared (region_on p page) s)
  made_is files fresh shared = ap (made_resident_from files fresh shared p Store page) settled ∙ taken_unless fresh shared _ refl

  part_unless : (fork shared rest : Bool) → unless_through (fork && shared) (not fork && rest) ≡ take_over_need (fork && shared)
  part_unless true shared rest = refl
  part_unless false shared true = refl
  part_unless false shared false = refl

  pub need_is : (shared : Bool) → resident_need shared p Store page ≡ take_over_need (parts_from shared s)
  need_is shared = ap (resident_need_of shared p Store page) settled ∙ part_unless s.cow shared (s.dirty || not (keeps_stores (region_on p page)))

-- ---- the copy-on-write mark goes

-- where the count that was read was 1 the page keeps its frame, else it stands on another one
placed_by_count : (v w : View) (t u : Tables) (page f g c : ℕ) → IsFrameOfPage t page f → IsFrameOfPage u page g → (c ≡ 1 → g ≡ f) → (c ≢ 1 → references v g ≡ 0) → IsSole w g
    → IsOnItsFrame v w t u page (not (c == 1))
placed_by_count v w t u page f g c on at same fresh sole = elim (cases_eq c 1) [
  | inl one ↦ rw (eq-eqb c 1 one) (λ h here. subst (IsFrameOfPage u page) (same one ∙ one_frame t page f h on here) at)
  | inr more ↦ rw (ne_eqb c 1 more) (g, at, fresh more, sole)
]

-- what is done to a page, with the count that was read
abbrev pub UnsharedAt : Body → Body → Tables → Process → ℕ → Page → (ℕ → ℕ → Type 0) → Type 0
UnsharedAt x y t p page s IsCount =
    (u : Tables) × (count : Option ℕ) × Unshares x.view y t u p page s count × ((f c : ℕ) → IsFrameOfPage t page f → count ≡ Some c → IsCount f c)

module _ (x : Body) (t : Tables) (p : Process) (settled : SettledPage) (can : CanMakeResident x t p Store settled.page) (is : IsSettledPage t p settled) where
  abbrev n : ℕ
  n = settled.page

  pub writes : can.region.writes ≡ true
  writes = from_not can.region.writes can.right

  pub can_own : settled.cow ≡ true → CanOwn x t p n is.page settled.frame.0
  can_own marked = record {
    agrees = can.agrees;
    settled = is.settled;
    marked = sym is.cow ∙ marked;
    region = can.region;
    in_region = can.in_region;
    writes = writes;
    on = is.on;
  }

  pub by_owning : (y : Body) (IsCount : ℕ → ℕ → Type 0) → settled.cow ≡ true → HasOwned x y n IsCount → UnsharedAt x y t p n is.page IsCount
  by_owning y IsCount marked owned =
      let own = owned t p is.page settled.frame.0 (can_own marked) in
      let fork : is.page.cow ≡ true = sym is.cow ∙ marked in
      let c = own.2 in (
        own.0,
        Some c,
        record {
          agrees = own.3.agrees;
          placed = subst (λ b. IsOnItsFrame x.view y.view t own.0 n (b && not (c == 1))) (sym fork)
              (placed_by_count x.view y.view t own.0 n settled.frame.0 own.1 c is.on own.3.on own.3.same own.3.fresh own.3.sole);
          others = own.3.others;
          counted = sym fork;
          takes = subst (λ b. TakesFrames x.view y.view (take_over_need (b && not (c == 1))) (c ∷ [])) (sym fork) own.3.takes;
        },
        λ f d on same. subst (λ k. IsCount k d) (one_frame t n settled.frame.0 f is.on on) (subst (IsCount settled.frame.0) (same_Some c d same) own.4),
      )

  pub by_leaving : (IsCount : ℕ → ℕ → Type 0) → settled.cow ≡ false → UnsharedAt x x t p n is.page IsCount
  by_leaving IsCount unmarked_is =
      let none : is.page.cow ≡ false = sym is.cow ∙ unmarked_is in (
        t,
        None,
        record {
          agrees = λ fresh. subst (λ m. IsSpace x t (record p { settled = m }))
              (sym (ap (insert p.settled n) (unmarked_same fresh false is.page none) ∙ put_back p.settled n is.page is.settled)) can.agrees;
          placed = subst (λ b. IsOnItsFrame x.view x.view t t n (b && false)) (sym none) (λ f on. on);
          others = λ k apart. refl;
          counted = sym none;
          takes = subst (λ b. TakesFrames x.view x.view (take_over_need (b && false)) []) (sym none) (record { tallies = taken_none x.view.tallies });
        },
        λ f c on same. absurd (cc),
      )

  -- what it takes

  pub marked_need : (shared : Bool) (count : ℕ → ℕ) → settled.cow ≡ true → ((f : ℕ) → IsFrameOfPage t n f → shared ≡ not (count f == 1)) → resident_need shared p Store n ≡ own_need (count settled.frame.0)
  marked_need shared count marked told =
      need_is p n is.page is.settled shared ∙ ap (λ b. take_over_need (b && shared)) (sym is.cow ∙ marked) ∙ ap take_over_need (told settled.frame.0 is.on)

  pub unmarked_need : (shared : Bool) → settled.cow ≡ false → resident_need shared p Store n ≡ 0
  unmarked_need shared none = need_is p n is.page is.settled shared ∙ ap (λ b. take_over_need (b && shared)) (sym is.cow ∙ none)

  pub counted_is : settled.cow ≡ true → is_counted Store (get p.settled n) ≡ true
  counted_is marked = ap (is_counted Store) is.settled ∙ sym is.cow ∙ marked

  pub runs_short : (v w : View) (c : ℕ) → settled.cow ≡ true → c ≢ 1 → RunsDry v w 1 (c ∷ [])
      → (count : Option ℕ) × (is_some count ≡ is_counted Store (get p.settled n)) × RunsDry v w (resident_need (is_shared_by count) p Store n) (option_to_list count)
  runs_short v w c marked more dry =
      let need : resident_need (not (c == 1)) p Store n ≡ 1 =
      need_is p n is.page is.settled (not (c == 1)) ∙ ap (λ b. take_over_need (b && not (c == 1))) (sym is.cow ∙ marked) ∙ ap (λ b. take_over_need (not b)) (ne_eqb c 1 more) in
      (Some c, sym (counted_is marked), subst (λ k. RunsDry v w k (c ∷ [])) (sym need) dry)

-- ---- the dirty mark comes

module _ {x y : Body} {t u : Tables} {p : Process} {count : Option ℕ} (settled : SettledPage) (can : CanMakeResident x t p Store settled.page) (is : IsSettledPage t p settled)
    (un : Unshares x.view y t u p settled.page is.page count) where
  abbrev m : ℕ
  m = settled.page

  abbrev shared : Bool
  shared = is_shared_by count

  -- the page and the process without the copy-on-write mark
  abbrev pub freed : ℕ → Page
  freed fresh = unmarked fresh shared is.page

  abbrev pub halfway : Process
  halfway = with_page p m (freed 0)

  pub can_write : CanWrite y u halfway m (freed 0)
  can_write = record {
    read = record { agrees = un.agrees 0; settled = inserted_here m (freed 0) p.settled m refl };
    unmarked = refl;
    region = can.region;
    in_region = can.in_region;
    writes = writes x t p settled can is;
  }

  settled_is : is_counted Store (get p.settled m) ≡ is.page.cow
  settled_is = ap (is_counted Store) is.settled

  gets : (sh : Bool) → gets_frame sh Store (get p.settled m) ≡ parts_from sh is.page
  gets sh = ap (gets_frame sh Store) is.settled

  pub resides_marked : (z : Body) (w : Tables) (files : List File) → MarksStored y.view z u w halfway m (freed 0) → MakesResident x.view z t w p files Store m count
  resides_marked z w files marks = record {
    agrees = λ fresh.
        subst (IsSpace z w) (sym (made_is p m is.page is.settled files fresh shared))
        (recopied z w p m (marked_stored (region_on p m) (freed 0)) (freed fresh).copy
        (subst (λ k. IsSpace z w (record p { settled = k })) (put_again p.settled m (freed 0) (marked_stored (region_on p m) (freed 0))) marks.agrees));
    placed = subst (IsOnItsFrame x.view z.view t w m) (sym (gets shared)) (placed (parts_from shared is.page) un.placed);
    others = λ k apart. marks.others k apart ∙ un.others k apart;
    counted = un.counted ∙ sym settled_is;
    takes = subst (λ k. TakesFrames x.view z.view k (option_to_list count)) (sym (need_is p m is.page is.settled shared)) (takes_on _ un.takes marks.takes);
  }
    where
      placed : (b : Bool) → IsOnItsFrame x.view y.view t u m b → IsOnItsFrame x.view z.view t w m b
      placed true (g, on, fresh, sole) =
          let at = marks.on g on in
          let space = marks.agrees in (
            g,
            at,
            fresh,
            page_sole z w _ m _ g space (inserted_here m (marked_stored (region_on p m) (freed 0)) halfway.settled m refl) refl
                (λ r in_region. ap (λ (k : Region). k.writes) (same_Some r can.region (sym in_region ∙ can.in_region)) ∙ writes x t p settled can is) at,
          )
      placed false stays = λ f on. marks.on f (stays f on)

      takes_on : (k : ℕ) → TakesFrames x.view y.view k (option_to_list count) → TakesFrames y.view z.view 0 [] → TakesFrames x.view z.view k (option_to_list count)
      takes_on k first second =
          let both = taken_on x.view.tallies y.view.tallies z.view.tallies k 0 (option_to_list count) [] first.tallies second.tallies in
          record { tallies = both ∙ ap (λ (cs : List ℕ). taken (k + 0) cs x.view.tallies) (append-nil (option_to_list count)) ∙ ap (λ (i : ℕ). taken i (option_to_list count) x.view.tallies) (add-zero k) }

  region_is : is.region ≡ can.region
  region_is = same_Some is.region can.region (sym is.in_region ∙ can.in_region)

  -- no store needs a mark where the leaf is dirty
  no_mark : settled.dirty ≡ true → (is.page.dirty || not (keeps_stores (region_on p m))) ≡ true
  no_mark dirty =
      let here : ((is.page.dirty || not (is_shared_kind can.region.kind)) && can.region.writes) ≡ true =
      ap (λ (r : Region). (is.page.dirty || not (is_shared_kind r.kind)) && r.writes) (sym region_is) ∙ sym is.dirty ∙ dirty in
      ap (λ r. is.page.dirty || not (keeps_stores r)) can.in_region
      ∙ ap (λ b. is.page.dirty || not (b && is_shared_kind can.region.kind)) (writes x t p settled can is)
      ∙ (and_parts _ _ here).0

  pub resides_dirty : (files : List File) → settled.dirty ≡ true → MakesResident x.view y t u p files Store m count
  resides_dirty files dirty = record {
    agrees = λ fresh.
        subst (IsSpace y u)
        (ap (λ k. with_page p m k) (sym (marked_same (region_on p m) (freed fresh) (no_mark dirty))) ∙ sym (made_is p m is.page is.settled files fresh shared))
        (un.agrees fresh);
    placed = subst (IsOnItsFrame x.view y.view t u m) (sym (gets shared)) un.placed;
    others = un.others;
    counted = un.counted ∙ sym settled_is;
    takes = subst (λ k. TakesFrames x.view y.view k (option_to_list count)) (sym (need_is p m is.page is.settled shared)) un.takes;
  }
