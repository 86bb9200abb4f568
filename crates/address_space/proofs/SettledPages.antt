-- Lemmas on settled pages (those in memory) and their leaves: a page below TRAPFRAME has a leaf if and only if it is
-- settled; the leaf gives its frame and marks (`page_is`); the first leaf of a range is that of its first settled page
-- (`next_is`).
use Rattle.std.proofs.Common.{◌≡◌, ℕ, Bool, ◌+◌, ◌<◌, ◌≤◌, min, Option, None, Some, refl, ap, sym, subst, ◌∙◌, inl, inr, arith}
use Rattle.std.specs.Prelude.{IsSome}
use Rattle.std.proofs.lemmas.Bool.{cases_lt}
use Rattle.std.proofs.lemmas.Option.{same_Some}
use Rattle.std.specs.FinMap.{get}
use Rattle.frame_store.specs.View.{View}
use Rattle.process_model.specs.PageMap as pages
use Rattle.process_model.specs.Process.{Page, Process, regions}
use Rattle.process_model.specs.Regions.{Region, region_at}
use Rattle.sv39_entry.specs.Address.{has}
use Rattle.sv39_entry.specs.Flags.{has_flag_is}
use Rattle.sv39_entry.specs.Frame.{frame_at, ppn_of}
use Rattle.sv39_entry.specs.Word.{has_flag, ppn}
use Rattle.sv39_entry.specs.declared.frame.FrameNo.{FrameNo}
use Rattle.sv39_entry.specs.Schemes.{trampoline_page, trapframe_page, of_scheme}
use Rattle.table_walk.specs.Tables.{Tables, leaf_node}
use Rattle.address_space.specs.Agreement.{body, no_extra}
use Rattle.address_space.specs.SpaceTeardown.{AreUnmapped, IsFirstLeaf, IsFirstMapped}
use Rattle.address_space.specs.Layouts.{Layout}
use Rattle.address_space.specs.ProcessLeaves.{frame_is}
use Rattle.address_space.specs.SettledLists.{AreUnsettled, IsNextSettled, IsSettledPage}
use Rattle.address_space.specs.SpacesInCalls.{IsSpaceInCall}
use Rattle.address_space.specs.declared.settled_pages.SettledPage.{SettledPage}
use Rattle.address_space.proofs.Writing.{HasPage, page_here}
use Rattle.table_walk.specs.Nodes.{one_page}

module _ (v : View) (root trapframe : ℕ) (l : Layout) (t : Tables) (p : Process) (space : IsSpaceInCall (body v root trapframe l) t p no_extra) where
  none_settled : (first end n : ℕ) (o : Option Page) → AreUnmapped t first end → first ≤ n → n < end → pages.get p.settled n ≡ o → o ≡ None
  none_settled first end n None bare from less at = refl
  none_settled first end n (Some s) bare from less at =
      let mapped = (space.stands.shows.settled n s at).mapped in
      let gone = bare n from less in
      absurd (cc)

  pub unsettled : (first end : ℕ) → AreUnmapped t first end → AreUnsettled p first end
  unsettled first end bare n from less = none_settled first end n (pages.get p.settled n) bare from less refl

  -- from a page on that no region has none is settled
  module _ (end : ℕ) (no_region : (n : ℕ) (r : Region) → region_at (regions p) n ≡ Some r → n < end) where
    none_above : (n : ℕ) (o : Option Page) → end ≤ n → pages.get p.settled n ≡ o → o ≡ None
    none_above n None above at = refl
    none_above n (Some s) above at =
        let shown = space.stands.shows.settled n s at in
        let below = no_region n shown.region shown.in_region in
        absurd (omega (arith, above, below))

    pub unsettled_above : (first up : ℕ) → AreUnmapped t first (min up end) → AreUnsettled p first up
    unsettled_above first up bare n from less = elim (cases_lt n end) [
      | inl below ↦ unsettled first (min up end) bare n from (omega (arith, below, less))
      | inr above ↦ none_above n (pages.get p.settled n) above refl
    ]

    -- the first leaf before that page, too, is the first of all
    pub first_leaf : (first up : ℕ) (o : Option (ℕ × ℕ)) → IsFirstMapped t first (min up end) o → IsFirstLeaf t p first up o
    first_leaf first up None bare = unsettled_above first up bare
    first_leaf first up (Some found) is = (is.0, omega (arith, is.1), is.2, is.3)

  -- a leaf below the trapframe's is a settled page's
  of_leaf : (page w : ℕ) → page < (trapframe_page p.scheme) → get t.leaves (leaf_node page) ≡ Some w → (s : Page) × (pages.get p.settled page ≡ Some s)
  of_leaf page w low leaf = elim (space.stands.shows.only (leaf_node page) w leaf) [
    | inl same ↦ absurd (let is = one_page page (trampoline_page p.scheme) same in omega (arith, is, low, of_scheme p.scheme))
    | inr rest ↦ elim rest [
      | inl same ↦ absurd (let is = one_page page (trapframe_page p.scheme) same in omega (arith, is, low))
      | inr there ↦
          let small = space.stands.shows.low there.0 there.1 there.3 in
          let is = one_page page there.0 there.2 in
          (there.1, ap (pages.get p.settled) is ∙ there.3)
    ]
  ]

  -- a page without a leaf is not settled
  pub no_leaf : (page : ℕ) → get t.leaves (leaf_node page) ≡ None → pages.get p.settled page ≡ None
  no_leaf page none = unsettled page (page + 1) (λ n from to. ap (λ k. get t.leaves (leaf_node k)) (between n from to) ∙ none) page (omega arith) (omega arith)
    where
      between : (n : ℕ) → page ≤ n → n < page + 1 → n ≡ page
      between n from to = omega (arith, from, to)

  -- and one with a leaf is
  module _ (page w : ℕ) (low : page < (trapframe_page p.scheme)) (leaf : get t.leaves (leaf_node page) ≡ Some w) where
    pub its_page : (s : Page) × (pages.get p.settled page ≡ Some s)
    its_page = of_leaf page w low leaf

    pub here : (f : ℕ) × HasPage v t p page its_page.0 f
    here = page_here v root trapframe _ t p page its_page.0 space.stands its_page.1

    leaf_is : here.1.leaf ≡ w
    leaf_is = same_Some here.1.leaf w (sym here.1.mapped ∙ leaf)

    frame_found : frame_at (ppn w) ≡ Some (record { 0 = here.0 })
    frame_found = ap (λ x. frame_at (ppn x)) (sym leaf_is) ∙ ap frame_at here.1.made.names ∙ frame_is here.0 here.1.made.small

    pub names_frame : IsSome (frame_at (ppn w))
    names_frame = rw frame_found refl

    shows_page : (f : FrameNo) (mark dirty : Bool) → frame_at (ppn w) ≡ Some f → mark ≡ has_flag w 256 → dirty ≡ has_flag w 128
        → IsSettledPage t p (record { page = page; frame = f; cow = mark; dirty = dirty })
    shows_page f mark dirty named marked dirtied =
        let same : record { 0 = here.0 } ≡ f = same_Some (record { 0 = here.0 }) f (sym frame_found ∙ named) in
        record {
          page = its_page.0;
          region = here.1.region;
          settled = its_page.1;
          in_region = here.1.in_region;
          on = (w, leaf, ap ppn (sym leaf_is) ∙ here.1.made.names ∙ ap (λ (x : FrameNo). ppn_of x.0) same);
          cow = marked ∙ has_flag_is w 8 ∙ ap (λ x. has x 8) (sym leaf_is) ∙ here.1.made.cow;
          dirty = dirtied ∙ has_flag_is w 7 ∙ ap (λ x. has x 7) (sym leaf_is) ∙ here.1.made.dirty;
        }

    pub page_is : (x : SettledPage) → x.page ≡ page → frame_at (ppn w) ≡ Some x.frame → x.cow ≡ has_flag w 256 → x.dirty ≡ has_flag w 128
        → IsSettledPage t p x
    page_is x same named marked dirtied =
        subst (λ n. IsSettledPage t p (record { page = n; frame = x.frame; cow = x.cow; dirty = x.dirty })) (sym same)
        (shows_page x.frame x.cow x.dirty named marked dirtied)

  module _ (first last end page w : ℕ) (found : IsFirstMapped t first last (Some (page, w))) (sooner : last ≤ end) (up : end ≤ (trapframe_page p.scheme)) where
    pub low_page : page < (trapframe_page p.scheme)
    low_page = let before = found.1 in omega (arith, before, sooner, up)

    -- the first page with a leaf is the first that is settled
    pub next_is : (x : SettledPage) → x.page ≡ page → IsSettledPage t p x → IsNextSettled t p first end (Some x)
    next_is x same is =
        let from : first ≤ x.page = rw same found.0 in
        let to : x.page < end = rw same (let before = found.1 in omega (arith, before, sooner)) in
        let before : AreUnsettled p first x.page = rw same (unsettled first page found.3) in
        (from, to, before, is)
