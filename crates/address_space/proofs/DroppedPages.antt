-- Lemmas for `drop_run`, by which the pages of a range are dropped in ascending order: none at first, one more
-- (`dropped_next`), and all once no leaf is left (`dropped_all`). The process without these pages is in memory, and the
-- space is that process (`agrees_dropped`).
use Rattle.std.proofs.Common.{◌≡◌, ℕ, ◌+◌, ◌*◌, ◌^◌, ◌<◌, ◌≤◌, ◌⊎◌, max, Option, None, Some, refl, ap, sym, ◌∙◌, inl, inr, arith, subst}
use Rattle.std.specs.Prelude.{IsSome}
use Rattle.std.proofs.lemmas.Bool.{cases_eq, cases_lt}
use Rattle.std.specs.FinMap.{get}
use Rattle.frame_store.specs.View.{hold_of, View}
use Rattle.process_model.specs.Heap.{without_pages}
use Rattle.process_model.specs.PageMap as pages
use Rattle.process_model.specs.PageMap.{PageMap}
use Rattle.process_model.specs.Process.{Page, Process}
use Rattle.process_model.proofs.ReleaseLaws.{still_settled, was_settled}
use Rattle.sv39_entry.specs.Schemes.{top_level, trampoline_page, trapframe_page, of_scheme}
use Rattle.sv39_entry.specs.declared.scheme.Scheme.{Scheme}
use Rattle.table_walk.specs.TableChanges.{IsNextLeafBefore, places}
use Rattle.table_walk.specs.Tables.{Tables, leaf_node, without_leaf, root_node, HasTables}
use Rattle.table_walk.specs.Keys.{remove_same, remove_other}
use Rattle.table_walk.specs.Places.{HasNoLeaves}
use Rattle.table_walk.specs.Nodes.{root_power, one_page}
use Rattle.address_space.specs.Agreement.{body, IsSpace, IsLeafNumber, IsFrameOfPage, no_extra, ShowsPages, IsInMemory}
use Rattle.address_space.specs.SpaceTeardown.{AreUnmapped, CanDrop, Drops, DropsLeaf, DropsRun, IsFirstMapped, MayDrop}
use Rattle.address_space.specs.Layouts.{Layout}
use Rattle.address_space.proofs.Sound.{sound_fewer}
use Rattle.address_space.proofs.DroppedLeaf.{left, takes_none, takes_then}
use Rattle.address_space.proofs.Owned.{same_bytes}

-- places below the root, and pages

leaf_place : (z : Scheme) (n : ℕ) → leaf_node n ≡ root_node z * places (top_level z) + n
leaf_place z n = omega (arith, root_power z)

unmapped_to : (z : Scheme) (t : Tables) (first end : ℕ) → HasNoLeaves t (root_node z) (places (top_level z)) first end → AreUnmapped t first end
unmapped_to z t first end bare n from less = ap (get t.leaves) (leaf_place z n) ∙ bare n from less

pub first_is_mapped : (z : Scheme) (t : Tables) (first end : ℕ) (o : Option (ℕ × ℕ)) → IsNextLeafBefore z t first end o → IsFirstMapped t first end o
first_is_mapped z t first end None bare = unmapped_to z t first end bare
first_is_mapped z t first end (Some p) next =
    (next.1.0, next.0, ap (get t.leaves) (leaf_place z p.0) ∙ next.1.2, unmapped_to z t first p.0 next.1.3)

everywhere : (first n : ℕ) → (n < first) ⊎ (first ≤ n)
everywhere first n = elim (cases_lt n first) [ inl before ↦ inl before | inr after ↦ inr (omega (arith, after)) ]

-- a process with fewer settled pages, of which the others have no leaf
module _ (v : View) (root trapframe : ℕ) (u : Tables) (p : Process) (old new : PageMap Page)
    (fewer : (n : ℕ) (s : Page) → pages.get new n ≡ Some s → pages.get old n ≡ Some s)
    (numbers : (k w n : ℕ) (s : Page) → get u.leaves k ≡ Some w → k ≡ leaf_node n → pages.get old n ≡ Some s → pages.get new n ≡ Some s) where
  number_left : (k w : ℕ) → get u.leaves k ≡ Some w → IsLeafNumber (record p { settled = old }) k → IsLeafNumber (record p { settled = new }) k
  number_left k w leaf number = elim number as (λ _. IsLeafNumber (record p { settled = new }) k) [
    | inl trampoline ↦ inl trampoline
    | inr rest ↦ elim rest as (λ _. IsLeafNumber (record p { settled = new }) k) [
      | inl frame ↦ inr (inl frame)
      | inr there ↦ inr (inr (there.0, there.1, there.2, numbers k w there.0 there.1 leaf there.2 there.3))
    ]
  ]

  stands_fewer : IsInMemory v root trapframe no_extra u (record p { settled = old }) → IsInMemory v root trapframe no_extra u (record p { settled = new })
  stands_fewer a = record {
    tables = a.tables;
    owns = a.owns;
    shows = record {
      on_trampoline = a.shows.on_trampoline;
      on_trapframe = a.shows.on_trapframe;
      settled = λ n page at.
          let shown = a.shows.settled n page (fewer n page at) in
          record {
            region = shown.region;
            frame = shown.frame;
            leaf = shown.leaf;
            in_region = shown.in_region;
            mapped = shown.mapped;
            made = shown.made;
            bytes = shown.bytes;
          };
      only = λ k w leaf. number_left k w leaf (a.shows.only k w leaf);
      low = λ n page at. a.shows.low n page (fewer n page at);
    };
    tabled = a.tabled;
    tabled_low = a.tabled_low;
  }

-- a run with no leaf behind it is as good as a longer one
module _ (first from end : ℕ) (within : from ≤ max first end) where
  short_run : (n : ℕ) → (n < first) ⊎ (end ≤ n) → (n < first) ⊎ (from ≤ n)
  short_run n (inl before) = inl before
  short_run n (inr after) = elim (cases_lt n first) [
    | inl before ↦ inl before
    | inr late ↦ inr (omega (arith, within, after, late))
  ]

  module _ (u : Tables) (none : AreUnmapped u from end) where
    long_run : (n w : ℕ) → get u.leaves (leaf_node n) ≡ Some w → (n < first) ⊎ (from ≤ n) → (n < first) ⊎ (end ≤ n)
    long_run n w leaf (inl before) = inl before
    long_run n w leaf (inr after) = elim (cases_lt n end) [
      | inl inside ↦ absurd (let gone = none n after inside in cc)
      | inr late ↦ inr (omega (arith, late))
    ]

    drops_longer : (t : Tables) → Drops t u first from → Drops t u first end
    drops_longer t d = record {
      tables = d.tables;
      gone = λ n low high. elim (cases_lt n from) [
        | inl inside ↦ d.gone n low inside
        | inr late ↦ none n (omega (arith, late)) high
      ];
      others = λ k apart. d.others k (λ n low high. apart n low (omega (arith, within, low, high)));
    }

    stands_longer : (v : View) (root trapframe : ℕ) (p : Process)
        → IsInMemory v root trapframe no_extra u (without_pages p first from) → IsInMemory v root trapframe no_extra u (without_pages p first end)
    stands_longer v root trapframe p =
        stands_fewer v root trapframe u p (without_pages p first from).settled (without_pages p first end).settled
        (λ n s at. let was = was_settled p first end n s at in still_settled p first from n s was.0 (short_run n was.1))
        (λ k w n s leaf is at.
        let was = was_settled p first from n s at in
        still_settled p first end n s was.0 (long_run n w (ap (get u.leaves) (sym is) ∙ leaf) was.1))

-- the page behind a run goes
module _ (first page : ℕ) (from : first ≤ page) where
  one_less : (n : ℕ) → (n < first) ⊎ (page + 1 ≤ n) → (n < first) ⊎ (page ≤ n)
  one_less n (inl before) = inl before
  one_less n (inr after) = inr (omega (arith, after))

  one_more : (n : ℕ) → (n ≡ page → ⊥) → (n < first) ⊎ (page ≤ n) → (n < first) ⊎ (page + 1 ≤ n)
  one_more n apart (inl before) = inl before
  one_more n apart (inr after) = inr (omega (arith, after, apart))

  other_page : (n : ℕ) → (n ≡ page → ⊥) → leaf_node n ≡ leaf_node page → ⊥
  other_page n apart same = apart (one_page n page same)

  drops_more : (t u : Tables) → Drops t u first page → Drops t (without_leaf u (leaf_node page)) first (page + 1)
  drops_more t u d = record {
    tables = d.tables;
    gone = λ n after before. elim (cases_eq n page) [
      | inl same ↦ remove_same u.leaves (leaf_node page) (leaf_node n) (ap leaf_node same)
      | inr apart ↦
          remove_other u.leaves (leaf_node page) (leaf_node n) (other_page n apart)
          ∙ d.gone n after (omega (arith, before, apart))
    ];
    others = λ k apart.
        remove_other u.leaves (leaf_node page) k (apart page from (omega arith)) ∙ d.others k (λ n after before. apart n after (omega (arith, before)));
  }

  module _ (v w : View) (root trapframe : ℕ) (u : Tables) (p : Process) (low : page < trapframe_page p.scheme) (d : DropsLeaf p.scheme v w root u page) where
    kept : (n x : ℕ) → (n ≡ page → ⊥) → get u.leaves (leaf_node n) ≡ Some x → get (without_leaf u (leaf_node page)).leaves (leaf_node n) ≡ Some x
    kept n x apart leaf = remove_other u.leaves (leaf_node page) (leaf_node n) (other_page n apart) ∙ leaf

    before_that : (n : ℕ) (s : Page) → pages.get (without_pages p first (page + 1)).settled n ≡ Some s
        → (pages.get (without_pages p first page).settled n ≡ Some s) × (n ≡ page → ⊥)
    before_that n s at =
        let was = was_settled p first (page + 1) n s at in (
          still_settled p first page n s was.0 (one_less n was.1),
          λ same. elim was.1 as (λ _. ⊥) [
            | inl before ↦ omega (arith, before, same, from)
            | inr after ↦ omega (arith, after, same)
          ],
        )

    number_more : (k : ℕ) → (k ≡ leaf_node page → ⊥) → IsLeafNumber (without_pages p first page) k → IsLeafNumber (without_pages p first (page + 1)) k
    number_more k apart number = elim number as (λ _. IsLeafNumber (without_pages p first (page + 1)) k) [
      | inl trampoline ↦ inl trampoline
      | inr rest ↦ elim rest as (λ _. IsLeafNumber (without_pages p first (page + 1)) k) [
        | inl frame ↦ inr (inl frame)
        | inr there ↦
            let was = was_settled p first page there.0 there.1 there.3 in
            let out = one_more there.0 (λ same. apart (there.2 ∙ ap leaf_node same)) was.1 in
            inr (inr (there.0, there.1, there.2, still_settled p first (page + 1) there.0 there.1 was.0 out))
      ]
    ]

    shows_more : ShowsPages v trapframe u (without_pages p first page) → ShowsPages w trapframe (without_leaf u (leaf_node page)) (without_pages p first (page + 1))
    shows_more s = record {
      on_trampoline =
          let t = s.on_trampoline in
          (t.0, kept (trampoline_page p.scheme) t.0 (λ same. omega (arith, same, low, of_scheme p.scheme)) t.1, t.2);
      on_trapframe =
          let t = s.on_trapframe in
          (t.0, kept (trapframe_page p.scheme) t.0 (λ same. omega (arith, same, low)) t.1, t.2);
      settled = λ n page_there at.
          let was = before_that n page_there at in
          let shown = s.settled n page_there was.0 in
          let still = kept n shown.leaf was.1 shown.mapped in
          record {
            region = shown.region;
            frame = shown.frame;
            leaf = shown.leaf;
            in_region = shown.in_region;
            mapped = still;
            made = shown.made;
            bytes = same_bytes v w shown.frame page_there.bytes (d.others (leaf_node n) shown.leaf shown.frame still shown.made.names) shown.bytes;
          };
      only = λ k x leaf.
          let was = left u (leaf_node page) k x leaf in
          number_more k was.1 (s.only k x was.0);
      low = λ n page_there at. s.low n page_there (before_that n page_there at).0;
    }

    stands_more : IsInMemory v root trapframe no_extra u (without_pages p first page) → IsInMemory w root trapframe no_extra (without_leaf u (leaf_node page)) (without_pages p first (page + 1))
    stands_more a = record {
      tables = d.tables;
      owns = d.owns;
      shows = shows_more a.shows;
      tabled = a.tabled;
      tabled_low = a.tabled_low;
    }

    -- the trapframe's frame is named still
    saved_more : ShowsPages v trapframe u (without_pages p first page) → hold_of w trapframe ≡ hold_of v trapframe
    saved_more s =
        let t = s.on_trapframe in
        d.others (leaf_node (trapframe_page p.scheme)) t.0 trapframe (kept (trapframe_page p.scheme) t.0 (λ same. omega (arith, same, low)) t.1) t.2.names

-- a page below TRAPFRAME's that has a leaf

pub has_leaf : (t : Tables) (n w : ℕ) → get t.leaves n ≡ Some w → IsSome (get t.leaves n)
has_leaf t n w is = rw is refl

some_leaf : (o : Option ℕ) → IsSome o → (w : ℕ) × (o ≡ Some w)
some_leaf None some = absurd (cc)
some_leaf (Some w) some = (w, refl)

-- the first page of a run, where it has one
pub goes_first : (t : Tables) (first end : ℕ) → first < end → IsSome (get t.leaves (leaf_node first)) → (leaf : ℕ) × IsFirstMapped t first end (Some (first, leaf))
goes_first t first end before some =
    let leaf = some_leaf (get t.leaves (leaf_node first)) some in
    (leaf.0, (omega arith, before, leaf.1, λ n from less. absurd (omega (arith, from, less))))

may_drop : (v : View) (root trapframe : ℕ) (u : Tables) (q : Process) → IsInMemory v root trapframe no_extra u q → (page : ℕ) → page < trapframe_page q.scheme
    → IsSome (get u.leaves (leaf_node page)) → CanDrop q.scheme v root u page
may_drop v root trapframe u q s page low some =
    let leaf = some_leaf (get u.leaves (leaf_node page)) some in
    let of_trampoline : leaf_node page ≡ leaf_node (trampoline_page q.scheme) → ⊥ = λ same. omega (arith, low, one_page page (trampoline_page q.scheme) same, of_scheme q.scheme) in
    let of_trapframe : leaf_node page ≡ leaf_node (trapframe_page q.scheme) → ⊥ = λ same. omega (arith, low, one_page page (trapframe_page q.scheme) same) in
    let on : (f : ℕ) × IsFrameOfPage u page f × (f < 2 ^ 16) =
    elim (s.shows.only (leaf_node page) leaf.0 leaf.1) as (λ _. (f : ℕ) × IsFrameOfPage u page f × (f < 2 ^ 16)) [
      | inl same ↦ absurd (of_trampoline same)
      | inr rest ↦ elim rest as (λ _. (f : ℕ) × IsFrameOfPage u page f × (f < 2 ^ 16)) [
        | inl same ↦ absurd (of_trapframe same)
        | inr there ↦
            let shown = s.shows.settled there.0 there.1 there.3 in
            (shown.frame, (shown.leaf, ap (get u.leaves) there.2 ∙ shown.mapped, shown.made.names), shown.made.small)
      ]
    ] in
    let anchor = s.shows.on_trampoline in
    record {
      tables = s.tables;
      owns = s.owns;
      anchor = (anchor.0, anchor.1, anchor.2.names);
      apart = of_trampoline;
      frame = on.0;
      on = on.1;
      small = on.2;
    }

drops_none : (t : Tables) (first : ℕ) → Drops t t first first
drops_none t first = record { tables = refl; gone = λ n from before. absurd (omega arith); others = λ k apart. refl }

-- before the first page
stands_first : (v : View) (root trapframe : ℕ) (t : Tables) (p : Process) (first : ℕ)
    → IsInMemory v root trapframe no_extra t p → IsInMemory v root trapframe no_extra t (without_pages p first first)
stands_first v root trapframe t p first =
    stands_fewer v root trapframe t p p.settled (without_pages p first first).settled
    (λ n s at. (was_settled p first first n s at).0)
    (λ k w n s leaf is at. still_settled p first first n s at (everywhere first n))

-- pages of a run were dropped
abbrev pub HasDropped : View → View → ℕ → ℕ → Tables → Process → ℕ → ℕ → Type 0
HasDropped v w root trapframe t p first end = (u : Tables) × DropsRun v w root trapframe t u p first end

module _ (v : View) (root trapframe : ℕ) (t : Tables) (p : Process) where
  pub dropped_none : (first : ℕ) → IsInMemory v root trapframe no_extra t p → HasDropped v v root trapframe t p first first
  dropped_none first s = (
    t,
    record {
      stands = stands_first v root trapframe t p first s;
      drops = drops_none t first;
      saved = refl;
      credits = refl;
      takes = takes_none v v refl;
    },
  )

  module _ (w : View) (first from end : ℕ) (so_far : HasDropped v w root trapframe t p first from) where
    pub dropped_all : from ≤ max first end → IsFirstMapped so_far.0 from end None → HasDropped v w root trapframe t p first end
    dropped_all within none = (
      so_far.0,
      record {
        stands = stands_longer first from end within so_far.0 none w root trapframe p so_far.1.stands;
        drops = drops_longer first from end within so_far.0 none t so_far.1.drops;
        saved = so_far.1.saved;
        credits = so_far.1.credits;
        takes = so_far.1.takes;
      },
    )

    -- by the scheme of the process, which the caller tells
    module _ (z : Scheme) (schemed : p.scheme ≡ z) where
      pub tables_yet : HasTables z w root so_far.0
      tables_yet = subst (λ s. HasTables s w root so_far.0) schemed so_far.1.stands.tables

      pub any_may_drop : end ≤ trapframe_page z → (page : ℕ) → MayDrop z w root so_far.0 page end
      any_may_drop low page before some =
          subst (λ s. CanDrop s w root so_far.0 page) schemed
          (may_drop w root trapframe so_far.0 (without_pages p first from) so_far.1.stands page (subst (λ s. page < trapframe_page s) (sym schemed) (omega (arith, low, before))) some)

      module _ (page leaf : ℕ) (found : IsFirstMapped so_far.0 from end (Some (page, leaf))) (low : end ≤ trapframe_page z) where
        pub dropped_next : first ≤ from → (x : View) → DropsLeaf z w x root so_far.0 page → HasDropped v x root trapframe t p first (page + 1)
        dropped_next after x drops =
            let d : DropsLeaf p.scheme w x root so_far.0 page = subst (λ s. DropsLeaf s w x root so_far.0 page) (sym schemed) drops in
            let near = found.0 in
            let before = found.1 in
            let within : from ≤ max first page = omega (arith, near) in
            let till = stands_longer first from page within so_far.0 found.3 w root trapframe p so_far.1.stands in
            let less = drops_longer first from page within so_far.0 found.3 t so_far.1.drops in
            let behind : first ≤ page = omega (arith, after, near) in
            let inside : page < trapframe_page p.scheme = subst (λ s. page < trapframe_page s) (sym schemed) (omega (arith, before, low)) in (
              without_leaf so_far.0 (leaf_node page),
              record {
                stands = stands_more first page behind w x root trapframe so_far.0 p inside d till;
                drops = drops_more first page behind t so_far.0 less;
                saved = saved_more first page behind w x root trapframe so_far.0 p inside d till.shows ∙ so_far.1.saved;
                credits = d.credits ∙ so_far.1.credits;
                takes = takes_then v w x so_far.1.takes d.takes;
              },
            )

-- the space that is left
pub agrees_dropped : (v w : View) (root trapframe : ℕ) (l : Layout) (t u : Tables) (p : Process) (first end : ℕ) → IsSpace (body v root trapframe l) t p
    → DropsRun v w root trapframe t u p first end → IsSpace (body w root trapframe l) u (without_pages p first end)
agrees_dropped v w root trapframe l t u p first end a d = record {
  sound = sound_fewer p (without_pages p first end).settled (λ n s at. (was_settled p first end n s at).0) a.sound;
  lays = record { scheme = a.lays.scheme; parts = a.lays.parts; mappings = a.lays.mappings; heap_base = a.lays.heap_base; size = a.lays.size };
  stands = d.stands;
  credits = d.credits ∙ a.credits;
}
