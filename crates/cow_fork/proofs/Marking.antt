-- Lemmas for `mark_pages`: while the parent's settled pages (those in memory) get the copy-on-write mark (the next store takes
-- the page over) one after another, the space remains a process, marked so far; at the end all are marked (`marking_all`).
use Rattle.std.proofs.Common.{◌≡◌, ℕ, Bool, true, ◌||◌, ◌+◌, ◌<◌, ◌≤◌, Option, None, Some, List, ◌∷◌, drop, length, slice_index_or, refl, ap, sym, subst, ◌∙◌, inl, inr, arith}
use Rattle.std.specs.FinMap as finite
use Rattle.std.specs.Prelude.{option_map}
use Rattle.std.proofs.lemmas.Bool.{cases_eq, cases_lt}
use Rattle.std.proofs.lemmas.List.{at_drop_all, at_drop_more}
use Rattle.std.proofs.lemmas.Option.{same_Some}
use Rattle.process_model.proofs.EachValue.{each_answer}
use Rattle.process_model.specs.Insertion.{inserted_here, inserted_other, same_finds}
use Rattle.process_model.proofs.OrderLaws.{same_order}
use Rattle.process_model.specs.PageMap.{get, insert, PageMap, with_values}
use Rattle.process_model.specs.Process as of_model
use Rattle.process_model.specs.Process.{grants_write, Page, Process}
use Rattle.process_model.specs.Residence.{marked, marked_page}
use Rattle.sv39_entry.specs.Word.{ppn}
use Rattle.sv39_entry.specs.Schemes.{trapframe_page}
use Rattle.table_walk.specs.Tables.{Tables}
use Rattle.address_space.specs.Agreement.{Body, IsFrameOfPage}
use Rattle.address_space.specs.SpacesInCalls.{HasMarkedForked, IsSpaceInCall, RewritesLeaves}
use Rattle.address_space.specs.SettledLists.{AreSettled, AreUnsettled, IsSettledPage}
use Rattle.address_space.specs.declared.settled_pages.SettledPage.{SettledPage}

-- a process that stands while a fork is under way does so whatever it has pending
forking_pending : (x : Body) (t : Tables) (p : Process) (extra : ℕ → ℕ) (o : Option of_model.Pending) → IsSpaceInCall x t p extra
    → IsSpaceInCall x t (record p { pending = o }) extra
forking_pending x t p extra o a = record {
  sound = record { order = same_order 0 p p.settled p.tabled o a.sound.order; tabled = a.sound.tabled };
  lays = record { parts = a.lays.parts; mappings = a.lays.mappings; heap_base = a.lays.heap_base; size = a.lays.size; scheme = a.lays.scheme };
  stands = record {
    tables = a.stands.tables;
    owns = a.stands.owns;
    shows = record {
      on_trampoline = a.stands.shows.on_trampoline;
      on_trapframe = a.stands.shows.on_trapframe;
      settled = λ n s there. let shown = a.stands.shows.settled n s there in record {
        region = shown.region;
        frame = shown.frame;
        leaf = shown.leaf;
        in_region = shown.in_region;
        mapped = shown.mapped;
        made = shown.made;
        bytes = shown.bytes;
      };
      only = a.stands.shows.only;
      low = a.stands.shows.low;
    };
    tabled = a.stands.tabled;
    tabled_low = a.stands.tabled_low;
  };
}

-- leaves that were turned, none and twice

turns_none : (x : Body) (t : Tables) → RewritesLeaves x x t t
turns_none x t = record { on = λ n f on. on; tables = refl; same = λ f apart. refl; count = λ f. refl; credits = refl; tallies = refl; size = refl }

turns_on : (x y z : Body) (t u w : Tables) → RewritesLeaves x y t u → RewritesLeaves y z u w → RewritesLeaves x z t w
turns_on x y z t u w a b = record {
  on = λ n f on. a.on n f (b.on n f on);
  tables = b.tables ∙ a.tables;
  same = λ f apart. b.same f (λ k at. apart k (ap (λ m. finite.get m k) (sym a.tables) ∙ at)) ∙ a.same f apart;
  count = λ f. b.count f ∙ a.count f;
  credits = b.credits ∙ a.credits;
  tallies = b.tallies ∙ a.tallies;
  size = b.size ∙ a.size;
}

-- the settled pages below a place have the copy-on-write mark where their regions grant writing, and the others are as they
-- were
pub record AreMarkedBelow (p : Process) (bound : ℕ) (done : PageMap Page) : Type 0 where
  pub below : (n : ℕ) → n < bound → get done n ≡ option_map (marked_page p n) (get p.settled n)
  pub above : (n : ℕ) → bound ≤ n → get done n ≡ get p.settled n

-- and so it stands in memory, where these pages are left
pub record IsMarking (x y : Body) (t : Tables) (p : Process) (extra : ℕ → ℕ) (rest : List SettledPage) : Type 0 where
  pub tables : Tables
  pub bound : ℕ
  pub done : PageMap Page
  pub forking : IsSpaceInCall y tables (record p { settled = done }) extra
  pub turns : RewritesLeaves x y t tables
  pub marks : AreMarkedBelow p bound done
  pub left : AreSettled t p bound (trapframe_page p.scheme) rest

module _ (p : Process) (bound : ℕ) (done : PageMap Page) (marks : AreMarkedBelow p bound done) where
  -- the next settled page is marked
  marks_next : (k : ℕ) (s : Page) → bound ≤ k → AreUnsettled p bound k → get p.settled k ≡ Some s
      → AreMarkedBelow p (k + 1) (insert done k (marked_page p k s))
  marks_next k s behind none here = record {
    below = λ n before. elim (cases_eq n k) [
      | inl same ↦
          inserted_here k (marked_page p k s) done n same
          ∙ sym (ap (option_map (marked_page p k)) here)
          ∙ ap (λ m. option_map (marked_page p m) (get p.settled m)) (sym same)
      | inr apart ↦ inserted_other k (marked_page p k s) done n apart ∙ elim (cases_lt n bound) [
        | inl low ↦ marks.below n low
        | inr high ↦ (
            let empty = none n (omega (arith, high)) (omega (arith, before, apart)) in
            marks.above n (omega (arith, high)) ∙ empty ∙ sym (ap (option_map (marked_page p n)) empty))
      ]
    ];
    above = λ n after. inserted_other k (marked_page p k s) done n (λ same. omega (arith, after, same)) ∙ marks.above n (omega (arith, after, behind));
  }

  marked_same : (k : ℕ) (s : Page) → s.cow ≡ true → marked_page p k s ≡ s
  marked_same k s has = ap (λ (b : Bool). record s { cow = b || grants_write p k }) has ∙ ap (λ (b : Bool). record s { cow = b }) (sym has)

  -- where it has the mark, it stays as it is
  marks_passed : (k : ℕ) (s : Page) → bound ≤ k → AreUnsettled p bound k → get p.settled k ≡ Some s → s.cow ≡ true → AreMarkedBelow p (k + 1) done
  marks_passed k s behind none here has = record {
    below = λ n before. elim (cases_eq n k) [
      | inl same ↦
          subst (λ m. get done m ≡ option_map (marked_page p m) (get p.settled m)) (sym same)
          (marks.above k behind ∙ here ∙ sym (ap (λ (q : Page). Some q) (marked_same k s has)) ∙ sym (ap (option_map (marked_page p k)) here))
      | inr apart ↦ elim (cases_lt n bound) [
        | inl low ↦ marks.below n low
        | inr high ↦ (
            let empty = none n (omega (arith, high)) (omega (arith, before, apart)) in
            marks.above n (omega (arith, high)) ∙ empty ∙ sym (ap (option_map (marked_page p n)) empty))
      ]
    ];
    above = λ n after. marks.above n (omega (arith, after, behind));
  }

  -- where none is left, all are
  marks_all : AreUnsettled p bound (trapframe_page p.scheme) → ((n : ℕ) (s : Page) → get p.settled n ≡ Some s → n < (trapframe_page p.scheme))
      → done ≡ with_values (marked_page p) p.settled
  marks_all none low = same_finds done (with_values (marked_page p) p.settled) (λ n. all n ∙ sym (each_answer (marked_page p) p.settled n)) where
    high_none : (n : ℕ) (o : Option Page) → get p.settled n ≡ o → bound ≤ n → get p.settled n ≡ None
    high_none n None is high = is
    high_none n (Some s) is high = none n high (low n s is)

    all : (n : ℕ) → get done n ≡ option_map (marked_page p n) (get p.settled n)
    all n = elim (cases_lt n bound) [
      | inl before ↦ marks.below n before
      | inr after ↦ (
          let empty = high_none n (get p.settled n) refl (omega (arith, after)) in
          marks.above n (omega (arith, after)) ∙ empty ∙ sym (ap (option_map (marked_page p n)) empty))
    ]

module _ (x : Body) (t : Tables) (p : Process) (extra : ℕ → ℕ) (settled : List SettledPage) where
  pub marking_none : IsSpaceInCall x t p extra → AreSettled t p 0 (trapframe_page p.scheme) settled → IsMarking x x t p extra settled
  marking_none can are = record {
    tables = t;
    bound = 0;
    done = p.settled;
    forking = can;
    turns = turns_none x t;
    marks = record { below = λ n before. absurd (omega (arith, before)); above = λ n after. refl };
    left = are;
  }

  module _ (y : Body) (i : ℕ) (m : IsMarking x y t p extra (drop i settled)) where
    module _ (a : SettledPage) (lt : i < length settled) (is : a ≡ slice_index_or settled i a) where
      here : drop i settled ≡ a ∷ drop (i + 1) settled
      here = at_drop_more (λ l. l) settled i a lt ∙ ap (λ (b : SettledPage). b ∷ drop (i + 1) settled) (sym is)

      left : AreSettled t p m.bound (trapframe_page p.scheme) (a ∷ drop (i + 1) settled)
      left = subst (AreSettled t p m.bound (trapframe_page p.scheme)) here m.left

      page_there : get m.done a.page ≡ Some left.0.3.page
      page_there = m.marks.above a.page left.0.0 ∙ left.0.3.settled

      -- it is on the frame that it was on, since no turned leaf names another
      on_yet : IsFrameOfPage m.tables a.page (a.frame).0
      on_yet =
          let shown = m.forking.stands.shows.settled a.page left.0.3.page page_there in
          let was = m.turns.on a.page shown.frame (shown.leaf, shown.mapped, shown.made.names) in
          let on = left.0.3.on in
          (shown.leaf, shown.mapped, shown.made.names ∙ sym was.2 ∙ ap ppn (same_Some was.0 on.0 (sym was.1 ∙ on.1)) ∙ on.2)

      settled_yet : IsSettledPage m.tables (record p { settled = m.done }) a
      settled_yet = record {
        page = left.0.3.page;
        region = left.0.3.region;
        settled = page_there;
        in_region = left.0.3.in_region;
        on = on_yet;
        cow = left.0.3.cow;
        dirty = left.0.3.dirty;
      }

      pub marking_ready : (t : Tables) × (p : Process) × (extra : ℕ → ℕ) × IsSpaceInCall y t p extra × IsSettledPage t p a
      marking_ready = (m.tables, record p { settled = m.done }, extra, m.forking, settled_yet)

      pub marking_next : (z : Body) → HasMarkedForked y z a → IsMarking x z t p extra (drop (i + 1) settled)
      unfolding settled_yet
      marking_next z has =
          let after = has m.tables (record p { settled = m.done }) extra m.forking settled_yet in
          record {
            tables = after.0;
            bound = a.page + 1;
            done = insert m.done a.page (marked_page p a.page left.0.3.page);
            forking = after.1.forking;
            turns = turns_on x y z t m.tables after.0 m.turns after.1.turns;
            marks = marks_next p m.bound m.done m.marks a.page left.0.3.page left.0.0 left.0.2 left.0.3.settled;
            left = left.1;
          }

      -- a page that has the mark is passed over
      pub marking_passed : a.cow ≡ true → IsMarking x y t p extra (drop (i + 1) settled)
      marking_passed has = record {
        tables = m.tables;
        bound = a.page + 1;
        done = m.done;
        forking = m.forking;
        turns = m.turns;
        marks = marks_passed p m.bound m.done m.marks a.page left.0.3.page left.0.0 left.0.2 left.0.3.settled (sym left.0.3.cow ∙ has);
        left = left.1;
      }

    pub marking_all : IsSpaceInCall x t p extra → length settled ≤ i → (w : Tables) × IsSpaceInCall y w (marked p) extra × RewritesLeaves x y t w
    marking_all can past =
        let none : AreUnsettled p m.bound (trapframe_page p.scheme) = subst (AreSettled t p m.bound (trapframe_page p.scheme)) (at_drop_all (λ l. l) settled i past) m.left in
        let same = marks_all p m.bound m.done m.marks none can.stands.shows.low in (
          m.tables,
          forking_pending y m.tables (record p { settled = with_values (marked_page p) p.settled }) extra None
              (subst (λ d. IsSpaceInCall y m.tables (record p { settled = d }) extra) same m.forking),
          m.turns,
        )
