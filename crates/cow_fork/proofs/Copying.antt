-- Lemmas for `copy_tree`: the child's leaves have the copy-on-write mark (the next store takes the page over) and no W as the
-- model says; the child's tables after one more settled page (one in memory; `copies_more`), and after all (`copies_all`).
use Rattle.std.proofs.Common.{◌≡◌, ℕ, ◌+◌, ◌-◌, ◌<◌, ◌≤◌, Bool, true, false, not, ◌&&◌, ◌||◌, Option, Some, inl, inr, refl, ap, sym, subst, ◌∙◌, arith, List, ◌∷◌, drop, length, slice_index_or}
use Rattle.std.proofs.lemmas.Bool.{cases_eq, cases_lt}
use Rattle.std.proofs.lemmas.List.{at_drop_all, at_drop_more}
use Rattle.std.proofs.lemmas.List.Elements.{All-contains_itself}
use Rattle.std.proofs.lemmas.Option.{same_Some}
use Rattle.std.specs.FinMap.{get}
use Rattle.std.specs.Prelude.{All, Contains}
use Rattle.frame_store.specs.Tallies.{spent_is}
use Rattle.frame_store.specs.View.{AllKnown, Hold, IsHeld, or_zero, View}
use Rattle.process_model.specs.Frames.{tables_needed}
use Rattle.process_model.specs.Insertion.{behind, first_or, in_front}
use Rattle.process_model.specs.PageMap as pages
use Rattle.process_model.specs.Process.{grants_write, Page, Process, regions}
use Rattle.process_model.specs.Regions.{is_shared_kind, lacks_right, Region, region_at}
use Rattle.process_model.specs.Residence.{child_page}
use Rattle.sv39_entry.specs.declared.access.Access.TheVariants.{Store}
use Rattle.table_walk.specs.TableCounts.{AreTablesOf, same_members}
use Rattle.table_walk.specs.Keys.{insert_other, insert_same}
use Rattle.table_walk.specs.LastTables.{IsLastTable}
use Rattle.table_walk.specs.Nodes.{low_leaf}
use Rattle.table_walk.specs.Tables.{ChangesTables, HasTables, IsGrown, leaf_node, missing, Tables, walk_leaf, with_leaf}
use Rattle.table_walk.specs.declared.last_table.LastTable.{LastTable}
use Rattle.sv39_entry.specs.Schemes.{top_level, trampoline_page, trapframe_page, page_limit, of_scheme}
use Rattle.sv39_entry.specs.declared.scheme.Scheme.{Scheme}
use Rattle.address_space.specs.Agreement.{is_dirty_page, IsPageLeaf}
use Rattle.address_space.specs.Layouts.{Layout}
use Rattle.address_space.specs.SettledLists.{AreSettled, AreUnsettled, IsNextSettled}
use Rattle.address_space.specs.declared.settled_pages.SettledPage.{SettledPage}
use Rattle.cow_fork.specs.Children.{CanCopy, CanOpen, CopiesPages, CopiesTree, HasChildLeaf}
use Rattle.cow_fork.proofs.Counting.{found_in, in_keys}
use Rattle.cow_fork.proofs.NeededTables.{AreAmong, tables_same, tables_up}
use Rattle.cow_fork.proofs.Opening.{held_beside, Makes, makes_more}

-- ---- leaves

twice : (b : Bool) → not (not b) ≡ b
twice true = refl
twice false = refl

-- a mark that the page had, and one that it gets
pub mark_had : (mark had writes : Bool) → mark ≡ had → had ≡ true → mark ≡ (had || writes)
mark_had mark had writes is had_is = is ∙ had_is ∙ sym (ap (λ b. b || writes) had_is)

pub mark_new : (mark had lacks writes : Bool) → mark ≡ not lacks → had ≡ false → lacks ≡ not writes → mark ≡ (had || writes)
mark_new mark had lacks writes is none lacks_is = is ∙ ap not lacks_is ∙ twice writes ∙ sym (ap (λ b. b || writes) none)

-- the leaf has the copy-on-write mark where the page had it or the region grants writing
pub child_leaf : (p : Process) (n : ℕ) (s : Page) (r : Region) (x frame : ℕ) (mark dirty : Bool) → region_at (regions p) n ≡ Some r → mark ≡ (s.cow || r.writes) → dirty ≡ not (is_shared_kind r.kind)
    → IsPageLeaf x frame r mark (dirty && r.writes) → IsPageLeaf x frame r (child_page p n s).cow (is_dirty_page r (child_page p n s))
child_leaf p n s r x frame mark dirty in_region mark_is dirty_is made =
    let grants : grants_write p n ≡ r.writes = ap (λ o. not (lacks_right Store o)) in_region ∙ twice r.writes in
    let is : mark ≡ (child_page p n s).cow = mark_is ∙ ap (λ b. s.cow || b) (sym grants) in
    subst (λ m. IsPageLeaf x frame r m (is_dirty_page r (child_page p n s))) is (subst (λ d. IsPageLeaf x frame r mark (d && r.writes)) dirty_is made)

-- so it has no W
pub child_unwritable : (w had mark : Bool) → mark ≡ (had || w) → (w && not mark) ≡ true → ⊥
child_unwritable w had mark is writes = go w had (subst (λ m. (w && not m) ≡ true) is writes) where
  go : (w m : Bool) → (w && not (m || w)) ≡ true → ⊥
  go true true e = cc
  go true false e = cc
  go false m e = cc

-- pages have different leaves
leaf_apart : (m n : ℕ) → (m ≡ n → ⊥) → leaf_node m ≡ leaf_node n → ⊥
leaf_apart m n apart same = apart (omega (arith, same))

-- what is missing by one scheme is missing by an equal one
pub missing_of_scheme : {x y : Scheme} (t : Tables) (page n : ℕ) → x ≡ y → missing x t page ≤ n → missing y t page ≤ n
missing_of_scheme t page n same few = subst (λ z. missing z t page ≤ n) same few

-- what `map_with_last` ensures of the tables, for a page below the page limit, and by an equal scheme
abbrev pub MapsNear : Scheme → View → View → ℕ → Tables → ℕ → ℕ → ℕ → Option LastTable → Type 0
MapsNear z v w root t page number leaf last =
    (u : Tables) × IsGrown z t u page (top_level z) × HasTables z w root (with_leaf u number leaf) × ChangesTables v w t u (missing z t page) × IsLastTable z u last

pub maps_near : (x y : Scheme) (v w : View) (root : ℕ) (t : Tables) (page leaf : ℕ) (last : Option LastTable) → x ≡ y → page < page_limit x
    → MapsNear y v w root t page (walk_leaf y page) leaf last → MapsNear x v w root t page (leaf_node page) leaf last
maps_near x y v w root t page leaf last same low maps =
    subst (λ (number : ℕ). MapsNear x v w root t page number leaf last) (low_leaf x page low) (subst (λ z. MapsNear z v w root t page (walk_leaf z page) leaf last) (sym same) maps)

-- ---- as far as some pages were gone through

pub open_first : (o : View) (l : Layout) (t : Tables) (p : Process) (trapframe : ℕ) (list : List SettledPage) → 1 + top_level p.scheme ≤ tables_needed p.scheme (pages.keys p.settled) → CanCopy o l t p trapframe list → CanOpen p.scheme o trapframe
open_first o l t p trapframe list three can = record { anchored = can.anchored; saved = can.saved; apart = can.apart; credits = (let some = can.credits in omega (arith, some, three)) }

module _ (o v : View) (l : Layout) (t u : Tables) (p : Process) (root trapframe bound : ℕ) (done : List ℕ) (list : List SettledPage) (can : CanCopy o l t p trapframe list) (so_far : CopiesPages o v t u p root trapframe bound done) where
  makes : Makes o v u.tables (tables_needed p.scheme done)
  makes = record { fresh = so_far.fresh; same = so_far.same; credits = so_far.credits; tallies = so_far.tallies }

  pub still_anchored : IsHeld v 0
  still_anchored = held_beside o v u.tables (tables_needed p.scheme done) 0 makes can.anchored

  pub done_low : All (λ n. n < page_limit p.scheme) done
  done_low = λ i d less.
      let page = so_far.there _ (All-contains_itself done i d less) in
      let low = can.low _ page.0 page.1 in
      omega (arith, low, of_scheme p.scheme)

  are_keys : AreAmong done (pages.keys p.settled)
  are_keys n h = let page = so_far.there n h in in_keys p.settled.entries n page.0 page.1

  -- none is left
  pub copies_all : AreUnsettled p bound (trapframe_page p.scheme) → CopiesTree o v t u p root trapframe
  copies_all none =
      let below : (n : ℕ) (s : Page) → pages.get p.settled n ≡ Some s → n < bound = λ n s at. elim (cases_lt n bound) [
        | inl less ↦ less
        | inr late ↦ absurd (let gone = none n (omega (arith, late)) (can.low n s at) in let both = sym gone ∙ at in cc)
      ] in
      let back : AreAmong (pages.keys p.settled) done = λ n h. (let s = found_in p.settled.entries n h in so_far.all n s.0 s.1 (below n s.0 s.1)) in
      let same = tables_same p.scheme done (pages.keys p.settled) are_keys back in
      record {
        tables = so_far.tables;
        on_trampoline = so_far.on_trampoline;
        on_trapframe = so_far.on_trapframe;
        settled = λ n s at. so_far.settled n s at (below n s at);
        only = so_far.only;
        tabled = same_members p.scheme u done (pages.keys p.settled) are_keys back so_far.tabled;
        fresh = so_far.fresh;
        same = so_far.same;
        credits = subst (λ n. v.credits ≡ o.credits - n) same so_far.credits;
        tallies = spent_is o.tallies v.tallies _ _ same so_far.tallies;
      }

  module _ (a : SettledPage) (next : IsNextSettled t p bound (trapframe_page p.scheme) (Some a)) where
    pub page_low : a.page < page_limit p.scheme
    page_low = let low = next.1 in omega (arith, low, of_scheme p.scheme)

    -- its frame has its bytes still
    pub page_known : AllKnown v (a.frame).0
    page_known =
        let f = (a.frame).0 in
        let had = can.known a.page (next.3).page (next.3).settled f (next.3).on in
        let same = so_far.same f (λ k at. let none = (so_far.fresh k f at).0 in omega (arith, none, had.0)) in
        subst (λ (h : Hold). (i : ℕ) → i < 512 → get h.words i ≡ Some (or_zero (get h.words i))) (sym same) had.1

    next_keys : AreAmong (a.page ∷ done) (pages.keys p.settled)
    next_keys n h = elim (first_or a.page n done h) [
      | inl same ↦ subst (λ k. Contains (pages.keys p.settled) k) same (in_keys p.settled.entries a.page (next.3).page (next.3).settled)
      | inr later ↦ are_keys n later
    ]

    module _ (law : missing p.scheme u a.page ≡ tables_needed p.scheme (a.page ∷ done) - tables_needed p.scheme done) where
      pub enough : missing p.scheme u a.page ≤ v.credits
      enough =
          let up = tables_up p.scheme (a.page ∷ done) (pages.keys p.settled) next_keys in
          let all = can.credits in
          let left = so_far.credits in
          omega (arith, up, all, left, law)

      more_needed : tables_needed p.scheme done + missing p.scheme u a.page ≡ tables_needed p.scheme (a.page ∷ done)
      more_needed = let up = tables_up p.scheme done (a.page ∷ done) (λ n h. behind a.page n done h) in omega (arith, up, law)

      module _ (w : View) (s : Tables) (x : ℕ) (r : Region) (in_region : region_at (regions p) a.page ≡ Some r)
          (made : IsPageLeaf x (a.frame).0 r (child_page p a.page (next.3).page).cow (is_dirty_page r (child_page p a.page (next.3).page)))
          (grown : IsGrown p.scheme u s a.page (top_level p.scheme)) (tables : HasTables p.scheme w root (with_leaf s (leaf_node a.page) x)) (changes : ChangesTables v w u s (missing p.scheme u a.page)) (tabled : AreTablesOf p.scheme s (a.page ∷ done)) where
        abbrev after : Tables
        after = with_leaf s (leaf_node a.page) x

        passed : (k : ℕ) → (k ≡ leaf_node a.page → ⊥) → get after.leaves k ≡ get u.leaves k
        passed k apart = insert_other s.leaves (leaf_node a.page) x k apart ∙ ap (λ leaves. get leaves k) grown.leaves

        -- another page has the leaf that it had
        stays : (n : ℕ) → (n ≡ a.page → ⊥) → get after.leaves (leaf_node n) ≡ get u.leaves (leaf_node n)
        stays n apart = passed (leaf_node n) (leaf_apart n a.page apart)

        made_all : Makes o w s.tables (tables_needed p.scheme done + missing p.scheme u a.page)
        made_all = makes_more p.scheme o v w u s a.page (top_level p.scheme) (missing p.scheme u a.page) (tables_needed p.scheme done) makes grown changes

        child_leaves : (n : ℕ) (q : Page) → pages.get p.settled n ≡ Some q → n < a.page + 1 → HasChildLeaf t after p n q
        child_leaves n q at below = elim (cases_eq n a.page) [
          | inl same ↦ (
              let here : pages.get p.settled a.page ≡ Some q = sym (ap (pages.get p.settled) same) ∙ at in
              let is : (next.3).page ≡ q = same_Some (next.3).page q (sym (next.3).settled ∙ here) in
              let first : HasChildLeaf t after p a.page (next.3).page = record {
                region = r;
                frame = (a.frame).0;
                leaf = x;
                in_region = in_region;
                on = (next.3).on;
                mapped = insert_same s.leaves (leaf_node a.page) x (leaf_node a.page) refl;
                made = made;
              } in
              subst (λ k. HasChildLeaf t after p k q) (sym same) (subst (λ z. HasChildLeaf t after p a.page z) is first))
          | inr apart ↦ elim (cases_lt n bound) [
            | inl before ↦ (
                let old = so_far.settled n q at before in
                record {
                  region = old.region;
                  frame = old.frame;
                  leaf = old.leaf;
                  in_region = old.in_region;
                  on = old.on;
                  mapped = stays n apart ∙ old.mapped;
                  made = old.made;
                })
            | inr late ↦ absurd (let gone = next.2 n (omega (arith, late)) (omega (arith, below, apart)) in let both = sym gone ∙ at in cc)
          ]
        ]

        all_done : (n : ℕ) (q : Page) → pages.get p.settled n ≡ Some q → n < a.page + 1 → Contains (a.page ∷ done) n
        all_done n q at below = elim (cases_eq n a.page) [
          | inl same ↦ subst (λ k. Contains (a.page ∷ done) k) (sym same) (in_front a.page done)
          | inr apart ↦ elim (cases_lt n bound) [
            | inl before ↦ behind a.page n done (so_far.all n q at before)
            | inr late ↦ absurd (let gone = next.2 n (omega (arith, late)) (omega (arith, below, apart)) in let both = sym gone ∙ at in cc)
          ]
        ]

        pub copies_more : CopiesPages o w t after p root trapframe (a.page + 1) (a.page ∷ done)
        copies_more =
            let small = next.1 in
            record {
              tables = tables;
              on_trampoline = (let leaf = so_far.on_trampoline in (leaf.0, stays (trampoline_page p.scheme) (λ same. omega (arith, same, small, of_scheme p.scheme)) ∙ leaf.1, leaf.2));
              on_trapframe = (let leaf = so_far.on_trapframe in (leaf.0, stays (trapframe_page p.scheme) (λ same. omega (arith, same, small)) ∙ leaf.1, leaf.2));
              settled = child_leaves;
              only = λ k z at. elim (cases_eq k (leaf_node a.page)) [
                | inl same ↦ inr (inr (a.page, (next.3).page, same, (next.3).settled))
                | inr apart ↦ so_far.only k z (sym (passed k apart) ∙ at)
              ];
              all = all_done;
              there = λ n h. elim (first_or a.page n done h) [
                | inl same ↦ ((next.3).page, sym (ap (pages.get p.settled) same) ∙ (next.3).settled)
                | inr later ↦ so_far.there n later
              ];
              tabled = tabled;
              fresh = made_all.fresh;
              same = made_all.same;
              credits = subst (λ n. w.credits ≡ o.credits - n) more_needed made_all.credits;
              tallies = spent_is o.tallies w.tallies _ _ more_needed made_all.tallies;
            }

-- ---- in the list of settled pages

-- the pages before a place of the list were gone through, and those from there on are left
abbrev pub IsCopied : View → View → Tables → Process → ℕ → ℕ → List SettledPage → ℕ → Type 0
IsCopied o v t p root trapframe list i = (u : Tables) × (bound : ℕ) × (done : List ℕ) × CopiesPages o v t u p root trapframe bound done × AreSettled t p bound (trapframe_page p.scheme) (drop i list)

module _ (t : Tables) (p : Process) (bound i : ℕ) (list : List SettledPage) (left : AreSettled t p bound (trapframe_page p.scheme) (drop i list)) where
  pub next_left : (a : SettledPage) → i < length list → a ≡ slice_index_or list i a → IsNextSettled t p bound (trapframe_page p.scheme) (Some a) × AreSettled t p (a.page + 1) (trapframe_page p.scheme) (drop (i + 1) list)
  next_left a less is =
      let whole : drop i list ≡ a ∷ drop (i + 1) list = at_drop_more (λ (xs : List SettledPage). xs) list i a less ∙ ap (λ (b : SettledPage). b ∷ drop (i + 1) list) (sym is) in
      subst (AreSettled t p bound (trapframe_page p.scheme)) whole left

  pub none_left : length list ≤ i → AreUnsettled p bound (trapframe_page p.scheme)
  none_left past = subst (AreSettled t p bound (trapframe_page p.scheme)) (at_drop_all (λ (xs : List SettledPage). xs) list i past) left
