-- Lemmas for building the child in a fork: its trapframe is claimed and cleared; its tables can be copied (`can_copy`), have
-- no leaf between the regions and TRAPFRAME, and can be listed (`can_list`); then the child is complete (`has_child`).
use Rattle.std.proofs.Common.{◌≡◌, ◌⊎◌, ℕ, ◌+◌, ◌-◌, ◌<◌, ◌≤◌, refl, ap, sym, subst, ◌∙◌, inl, inr, Option, None, Some, List, [], ◌∷◌, ◌++◌, length, arith}
use Rattle.std.specs.Prelude.{Contains, is_some}
use Rattle.std.specs.FinMap.{get}
use Rattle.std.proofs.lemmas.Bool.{cases_eq}
use Rattle.frame_bytes.specs.Contents.{ChangesWords}
use Rattle.frame_store.specs.Holds.{hold_of-frames, hold_of-with_hold_other, hold_of-with_hold_same}
use Rattle.frame_store.specs.Tallies.{spent_on}
use Rattle.frame_store.specs.View.{AllKnown, claimed, Hold, hold_of, IsHeld, IsSole, or_zero, references, sole_hold, spent, View}
use Rattle.process_model.specs.Frames.{fork_need, tables_needed}
use Rattle.process_model.specs.Insertion.{first_or}
use Rattle.process_model.specs.PageMap as pages
use Rattle.process_model.specs.Process.{Page, Process, regions}
use Rattle.process_model.specs.Regions.{Region, region_at}
use Rattle.sv39_entry.specs.Frame.{ppn_of}
use Rattle.sv39_entry.specs.Word.{ppn}
use Rattle.sv39_entry.specs.Schemes.{trampoline_page, trapframe_page, page_limit, of_scheme}
use Rattle.table_walk.specs.Tables.{leaf_node, Tables}
use Rattle.address_space.specs.Agreement.{Body, body, IsFrameOfPage, IsSpace, NamesFrame}
use Rattle.address_space.specs.Layouts.{Layout}
use Rattle.address_space.specs.ProcessLeaves.{bytes_known}
use Rattle.address_space.specs.declared.settled_pages.SettledPage.{SettledPage}
use Rattle.cow_fork.specs.Children.{CanCopy, CopiesTree, HasChildLeaf}
use Rattle.cow_fork.specs.Forks.{CanDivide, HasChild}
use Rattle.cow_fork.specs.TableList.{CanList, IsEdged, IsLed, ListsTables}
use Rattle.cow_fork.specs.Occurrences.{times}
use Rattle.cow_fork.specs.SplitSpaces.{IsUnnamed}
use Rattle.cow_fork.specs.ForkReferences.{AreToShare, HasMore, IsToShare}
use Rattle.cow_fork.proofs.Counting.{found_in}
use Rattle.cow_fork.proofs.Going.{going_held, times_last_other, times_last_same}
use Rattle.cow_fork.proofs.Parted.{one_leaf, one_named}
use Rattle.cow_fork.proofs.Pigeons.{few}
use Rattle.cow_fork.proofs.Releasing.{times_other, times_same}
use Rattle.cow_fork.proofs.Taking.{held_still}
use Rattle.table_walk.specs.Nodes.{one_page}

-- ---- the child's trapframe is claimed and cleared

module _ (v w x : View) (own : ℕ) (free : references v own ≡ 0) (claims : w ≡ claimed own v) (clears : ChangesWords own w x) where
  pub claimed_other : (f : ℕ) → (f ≡ own → ⊥) → hold_of x f ≡ hold_of v f
  claimed_other f apart =
      let filled : Hold = record (hold_of w own) { words = clears.0 } in
      let u : View = record v { credits = v.credits - 1; tallies = spent 1 v.tallies } in
      ap (λ (k : View). hold_of k f) clears.1 ∙ hold_of-with_hold_other own filled w f apart
      ∙ ap (λ (k : View). hold_of k f) claims ∙ hold_of-with_hold_other own sole_hold u f apart ∙ hold_of-frames u v refl f

  claimed_before : hold_of w own ≡ sole_hold
  claimed_before = ap (λ (k : View). hold_of k own) claims ∙ hold_of-with_hold_same own sole_hold (record v { credits = v.credits - 1; tallies = spent 1 v.tallies })

  claimed_after : hold_of x own ≡ record (hold_of w own) { words = clears.0 }
  claimed_after = ap (λ (k : View). hold_of k own) clears.1 ∙ hold_of-with_hold_same own (record (hold_of w own) { words = clears.0 }) w

  pub claimed_once : references x own ≡ 1
  claimed_once = ap (λ (h : Hold). h.references) claimed_after ∙ ap (λ (h : Hold). h.references) claimed_before

  pub claimed_sole : IsSole x own
  claimed_sole = ap (λ (h : Hold). h.sole) claimed_after ∙ ap (λ (h : Hold). h.sole) claimed_before

  pub claimed_spends : (x.credits ≡ v.credits - 1) × (x.tallies ≡ spent 1 v.tallies)
  claimed_spends = (
    ap (λ (k : View). k.credits) clears.1 ∙ ap (λ (k : View). k.credits) claims,
    ap (λ (k : View). k.tallies) clears.1 ∙ ap (λ (k : View). k.tallies) claims,
  )

-- ---- a space that is ready to be divided

pub claims_sole : (v w : View) (own : ℕ) → w ≡ claimed own v → IsSole w own
claims_sole v w own claims =
    ap (λ (k : View). (hold_of k own).sole) claims ∙ ap (λ (h : Hold). h.sole) (hold_of-with_hold_same own sole_hold (record v { credits = v.credits - 1; tallies = spent 1 v.tallies }))

module _ (v : View) (x : Body) (t : Tables) (p : Process) (list : List SettledPage) (L : List ℕ) (can : CanDivide v x t p list L) where
  divide_code : IsHeld v 0
  divide_code = going_held (body v x.root x.trapframe x.layout) t p can.space (trapframe_page p.scheme) 0 (inl refl)

  pub divide_anchored : IsHeld x.view 0
  divide_anchored = held_still v x.view L 0 can.more divide_code

  module _ (w b : View) (own : ℕ) (free : references x.view own ≡ 0) (claims : w ≡ claimed own x.view) (clears : ChangesWords own w b) where
    here : references b own ≡ 1
    here = claimed_once x.view w b own free claims clears

    others : (f : ℕ) → (f ≡ own → ⊥) → hold_of b f ≡ hold_of x.view f
    others = claimed_other x.view w b own free claims clears

    apart : own ≡ 0 → ⊥
    apart same = let held = divide_anchored in let is = ap (references x.view) same in omega (arith, free, is, held)

    -- a settled page is on a frame that has its bytes
    known : (n : ℕ) (s : Page) → pages.get p.settled n ≡ Some s → (f : ℕ) → IsFrameOfPage t n f → IsHeld b f × AllKnown b f
    known n s at f on =
        let shown = can.space.stands.shows.settled n s at in
        let same : shown.frame ≡ f = one_named shown.frame f (sym shown.made.names ∙ ap ppn (one_leaf t (leaf_node n) shown.leaf on.0 shown.mapped on.1) ∙ on.2) in
        let once = can.space.stands.owns.named f (leaf_node n) (inr (on.0, on.1, on.2)) in
        let held = held_still v x.view L f can.more (omega (arith, once)) in
        let is = others f (λ same. let none : references x.view f ≡ 0 = ap (references x.view) same ∙ free in omega (arith, none, held)) in
        let words : (hold_of b f).words ≡ (hold_of v f).words = ap (λ (h : Hold). h.words) (is ∙ can.more.holds f) in
        let had = subst (AllKnown v) same (bytes_known v shown.frame s.bytes shown.bytes) in
        let references = ap (λ (h : Hold). h.references) is in
        (omega (arith, held, references), subst (λ m. (i : ℕ) → i < 512 → get m i ≡ Some (or_zero (get m i))) (sym words) had)

    -- the child's tables can be copied
    pub can_copy : CanCopy b x.layout t p own list
    can_copy = record {
      anchored = let held = divide_anchored in let is = ap (λ (h : Hold). h.references) (others 0 (λ e. apart (sym e))) in omega (arith, held, is);
      saved = omega (arith, here);
      apart = apart;
      order = can.space.sound.order;
      lays = can.space.lays;
      settled = can.settled;
      low = can.space.stands.shows.low;
      known = known;
      credits = let spends = (claimed_spends x.view w b own free claims clears).0 in let had = can.credits in omega (arith, spends, had);
    }

    own_apart : times own L ≡ 0
    own_apart = let sum = ap (λ (h : Hold). h.references) (can.more.holds own) in omega (arith, sum, free)

    still_held : (f : ℕ) → 0 < times f L → IsHeld b f
    still_held f some =
        let held = held_still v x.view L f can.more (can.more.held f some) in
        let far : f ≡ own → ⊥ = λ same. let is = ap (λ g. times g L) same in let none = own_apart in omega (arith, is, none, some) in
        let is = ap (λ (h : Hold). h.references) (others f far) in
        omega (arith, held, is)

    -- there is room for one more
    pub room_for_own : ((f : ℕ) → IsHeld b f → f < 1024) → length L < 1024
    room_for_own within =
        let most = few 1024 (own ∷ L)
        (λ f. elim (cases_eq f own) [
          | inl same ↦ (let one = times_same own L in let none = own_apart in let is = ap (λ g. times g (own ∷ L)) same in omega (arith, one, none, is))
          | inr far ↦ (let is = times_other f own L (λ e. far (sym e)) in elim (can.going f) [ inl there ↦ (let one = there.0 in omega (arith, is, one)) | inr none ↦ (let zero_ = none.0 in omega (arith, is, zero_)) ])
        ])
        (λ f some. elim (cases_eq f own) [
          | inl same ↦ within f (let is = ap (references b) same in omega (arith, is, here))
          | inr far ↦ within f (still_held f (let is = times_other f own L (λ e. far (sym e)) in omega (arith, is, some)))
        ]) in
        omega (arith, most)

-- ---- each settled page is one of a region
pub settled_below : {x : Body} (t : Tables) (p : Process) → IsSpace x t p → (end : ℕ) → ((n : ℕ) (r : Region) → region_at (regions p) n ≡ Some r → n < end)
    → (n : ℕ) (s : Page) → pages.get p.settled n ≡ Some s → n < end
settled_below t p space end no_region n s is = let shown = space.stands.shows.settled n s is in no_region n shown.region shown.in_region

-- ---- each of the child's tables is on the way to a leaf

module _ (v w : View) (t u : Tables) (p : Process) (root own : ℕ) (tree : CopiesTree v w t u p root own) (low : (n : ℕ) (s : Page) → pages.get p.settled n ≡ Some s → n < (trapframe_page p.scheme)) where
  abbrev HasLeaf : ℕ → Type 0
  HasLeaf n = (n < page_limit p.scheme) × ((x : ℕ) × (get u.leaves (leaf_node n) ≡ Some x))

  leaf_there : (n : ℕ) → Contains ((trampoline_page p.scheme) ∷ (trapframe_page p.scheme) ∷ pages.keys p.settled) n → HasLeaf n
  leaf_there n h = elim (first_or (trampoline_page p.scheme) n ((trapframe_page p.scheme) ∷ pages.keys p.settled) h) [
    | inl same ↦ subst HasLeaf same (omega (arith, of_scheme p.scheme), (tree.on_trampoline.0, tree.on_trampoline.1))
    | inr later ↦ elim (first_or (trapframe_page p.scheme) n (pages.keys p.settled) later) [
      | inl same ↦ subst HasLeaf same (omega (arith, of_scheme p.scheme), (tree.on_trapframe.0, tree.on_trapframe.1))
      | inr page ↦ (
          let s = found_in p.settled.entries n page in
          let c = tree.settled n s.0 s.1 in
          let below = low n s.0 s.1 in
          (omega (arith, below, of_scheme p.scheme), (c.leaf, c.mapped)))
    ]
  ]

  pub tables_led : IsLed p.scheme u
  tables_led k f at =
      let way = (tree.tabled k).0 (ap is_some at) in
      let leaf = leaf_there way.0 way.2 in
      (way.0, way.1, leaf.1.0, way.3, leaf.0, way.4, leaf.1.1)

  -- and none of its leaves stands between the regions and TRAPFRAME
  module _ (end : ℕ) (up : end ≤ (trapframe_page p.scheme)) (settled_below : (n : ℕ) (s : Page) → pages.get p.settled n ≡ Some s → n < end) where
    no_leaf : (n : ℕ) (o : Option ℕ) → end ≤ n → n < (trapframe_page p.scheme) → get u.leaves (leaf_node n) ≡ o → o ≡ None
    no_leaf n None late before is = refl
    no_leaf n (Some x) late before is = absurd (elim (tree.only (leaf_node n) x is) as (λ _. ⊥) [
      | inl same ↦ let at = one_page n (trampoline_page p.scheme) same in omega (arith, at, before, of_scheme p.scheme)
      | inr rest ↦ elim rest as (λ _. ⊥) [
        | inl same ↦ let at = one_page n (trapframe_page p.scheme) same in omega (arith, at, before, of_scheme p.scheme)
        | inr there ↦
            let far = low there.0 there.1 there.3 in
            let at = one_page n there.0 there.2 in
            let less = settled_below there.0 there.1 there.3 in
            omega (arith, at, less, late)
      ]
    ])

    none_above : (n : ℕ) (o : Option ℕ) → (trampoline_page p.scheme) < n → n < page_limit p.scheme → get u.leaves (leaf_node n) ≡ o → o ≡ None
    none_above n None late before is = refl
    none_above n (Some x) late before is = absurd (elim (tree.only (leaf_node n) x is) as (λ _. ⊥) [
      | inl same ↦ let at = one_page n (trampoline_page p.scheme) same in omega (arith, at, late, of_scheme p.scheme)
      | inr rest ↦ elim rest as (λ _. ⊥) [
        | inl same ↦ let at = one_page n (trapframe_page p.scheme) same in omega (arith, at, late, of_scheme p.scheme)
        | inr there ↦
            let far = low there.0 there.1 there.3 in
            let at = one_page n there.0 there.2 in
            omega (arith, at, far, late, of_scheme p.scheme)
      ]
    ])

    pub tables_edged : IsEdged p.scheme u end
    tables_edged = record {
      low = up;
      bare = λ n late before. no_leaf n (get u.leaves (leaf_node n)) late before refl;
      there = (tree.on_trapframe.0, tree.on_trapframe.1);
      above = λ n late before. none_above n (get u.leaves (leaf_node n)) late before refl;
    }

-- ---- all together

module _ (v a b c : View) (root saved : ℕ) (l : Layout) (t u : Tables) (p : Process) (croot own : ℕ) (L : List ℕ)
    (space : IsSpace (body v root saved l) t p) (more : HasMore v a L) (going : AreToShare t p (trapframe_page p.scheme) L)
    (free : references a own ≡ 0) (here : references b own ≡ 1) (sole : IsSole b own) (others : (f : ℕ) → (f ≡ own → ⊥) → hold_of b f ≡ hold_of a f)
    (tree : CopiesTree b c t u p croot own) where
  count_before : (f : ℕ) → references a f ≡ references v f + times f L
  count_before f = ap (λ (h : Hold). h.references) (more.holds f)

  own_free : (references v own ≡ 0) × (times own L ≡ 0)
  own_free = let sum = count_before own in (omega (arith, sum, free), omega (arith, sum, free))

  not_own : (f : ℕ) → IsHeld v f → f ≡ own → ⊥
  not_own f held same = let none = own_free.0 in let is = ap (references v) same in omega (arith, none, is, held)

  own_no_table : (k : ℕ) → get u.tables k ≡ Some own → ⊥
  own_no_table k at = let none = (tree.fresh k own at).0 in omega (arith, none, here)

  table_not_own : (k f : ℕ) → get u.tables k ≡ Some f → f ≡ own → ⊥
  table_not_own k f at same = own_no_table k (at ∙ ap (λ g. Some g) same)

  table_free : (k f : ℕ) → get u.tables k ≡ Some f → (references v f ≡ 0) × (times f L ≡ 0)
  table_free k f at =
      let none = (tree.fresh k f at).0 in
      let is = ap (λ (h : Hold). h.references) (others f (table_not_own k f at)) in
      let sum = count_before f in
      (omega (arith, none, is, sum), omega (arith, none, is, sum))

  held_no_table : (f : ℕ) → IsHeld v f → (k : ℕ) → get u.tables k ≡ Some f → ⊥
  held_no_table f held k at = let none = (table_free k f at).0 in omega (arith, none, held)

  held_same : (f : ℕ) → IsHeld v f → hold_of c f ≡ hold_of a f
  held_same f held = tree.same f (held_no_table f held) ∙ others f (not_own f held)

  -- the list with the trapframe's frame

  abbrev with_own : List ℕ
  with_own = L ++ own ∷ []

  own_listed : times own with_own ≡ 1
  own_listed = let last = times_last_same own L in let none = own_free.1 in omega (arith, last, none)

  other_listed : (f : ℕ) → (f ≡ own → ⊥) → times f with_own ≡ times f L
  other_listed f apart = times_last_other f own L (λ e. apart (sym e))

  once_listed : (f : ℕ) → times f L ≤ 1
  once_listed f = elim (going f) [ inl there ↦ (let one = there.0 in omega (arith, one)) | inr none ↦ (let is = none.0 in omega (arith, is)) ]

  pub can_list : ((f : ℕ) → IsHeld c f → f < 1024) → CanList u with_own
  can_list within = record {
    once = λ f. elim (cases_eq f own) [
      | inl same ↦ (let one = own_listed in let is = ap (λ g. times g with_own) same in omega (arith, one, is))
      | inr apart ↦ (let is = other_listed f apart in let most = once_listed f in omega (arith, is, most))
    ];
    low = λ f some. elim (cases_eq f own) [
      | inl same ↦ within f (let is = ap (λ (h : Hold). h.references) (tree.same own own_no_table) in let at = ap (references c) same in omega (arith, is, here, at))
      | inr apart ↦ (
          let is = other_listed f apart in
          let held : IsHeld v f = more.held f (omega (arith, is, some)) in
          within f (let now = ap (λ (h : Hold). h.references) (held_same f held) in let was = count_before f in omega (arith, now, was, held)))
    ];
    other = λ k f at. let is = other_listed f (table_not_own k f at) in let none = (table_free k f at).1 in omega (arith, is, none);
  }

  module _ (M : List ℕ) (listed : ListsTables u with_own M) where
    counts : (f : ℕ) → references c f ≡ references v f + times f M
    counts f = elim (listed f) [
      | inl table ↦ (
          let one = table.2 in
          let none = (table_free table.0 f table.1).0 in
          let now = (tree.fresh table.0 f table.1).1 in
          omega (arith, one, none, now))
      | inr other ↦ (let is = ap (λ (h : Hold). h.references) (tree.same f other.0) in let same_times = other.1 in elim (cases_eq f own) [
        | inl same ↦ (
            let none = own_free.0 in
            let one = own_listed in
            let at_v = ap (references v) same in
            let at_b = ap (references b) same in
            let at_l = ap (λ g. times g with_own) same in
            omega (arith, is, same_times, none, one, at_v, at_b, at_l, here))
        | inr apart ↦ (
            let before = ap (λ (h : Hold). h.references) (others f apart) in
            let sum = count_before f in
            let times_is = other_listed f apart in
            omega (arith, is, same_times, before, sum, times_is))
      ])
    ]

    -- what is listed of the parent's frames goes
    still_going : (f : ℕ) → 0 < times f M → IsHeld v f → IsToShare t p (trapframe_page p.scheme) f
    still_going f some held = elim (listed f) [
      | inl table ↦ absurd (held_no_table f held table.0 table.1)
      | inr other ↦ (let same_times = other.1 in let is = other_listed f (not_own f held) in elim (going f) [
        | inl there ↦ there.1
        | inr none ↦ absurd (let zero_ = none.0 in omega (arith, zero_, is, same_times, some))
      ])
    ]

    on_frame : (n : ℕ) (s : Page) (f : ℕ) (k : HasChildLeaf t u p n s) → IsFrameOfPage t n f → f ≡ k.frame
    on_frame n s f k on = one_named f k.frame (sym on.2 ∙ ap ppn (one_leaf t (leaf_node n) on.0 k.on.0 on.1 k.on.1) ∙ k.on.2)

    abbrev IsForChild : ℕ → Type 0
    IsForChild f = ((times f M ≡ 1) × ((k : ℕ) × NamesFrame u f k)) ⊎ ((times f M ≡ 0) × IsUnnamed u f)

    goes_named : (f : ℕ) → IsToShare t p (trapframe_page p.scheme) f → (k : ℕ) × NamesFrame u f k
    goes_named f (inl code) = (leaf_node (trampoline_page p.scheme), inr (tree.on_trampoline.0, tree.on_trampoline.1, tree.on_trampoline.2.names ∙ ap ppn_of (sym code)))
    goes_named f (inr page) =
        let k = tree.settled page.0 page.1 page.3 in
        (leaf_node page.0, inr (k.leaf, k.mapped, k.made.names ∙ ap ppn_of (sym (on_frame page.0 page.1 f k page.4))))

    goes_unnamed : (f : ℕ) → (f ≡ own → ⊥) → ((k : ℕ) → get u.tables k ≡ Some f → ⊥) → (IsToShare t p (trapframe_page p.scheme) f → ⊥) → IsUnnamed u f
    goes_unnamed f apart no_table stays k (inl at) = no_table k at
    goes_unnamed f apart no_table stays k (inr leaf) = elim (tree.only k leaf.0 leaf.1) [
      | inl same ↦ (
          let is = one_leaf u k leaf.0 tree.on_trampoline.0 leaf.1 (ap (get u.leaves) same ∙ tree.on_trampoline.1) in
          stays (inl (one_named f 0 (sym leaf.2 ∙ ap ppn is ∙ tree.on_trampoline.2.names))))
      | inr other ↦ elim other [
        | inl same ↦ (
            let is = one_leaf u k leaf.0 tree.on_trapframe.0 leaf.1 (ap (get u.leaves) same ∙ tree.on_trapframe.1) in
            apart (one_named f own (sym leaf.2 ∙ ap ppn is ∙ tree.on_trapframe.2.names)))
        | inr page ↦ (
            let c_leaf = tree.settled page.0 page.1 page.3 in
            let is = one_leaf u k leaf.0 c_leaf.leaf leaf.1 (ap (get u.leaves) page.2 ∙ c_leaf.mapped) in
            let at : f ≡ c_leaf.frame = one_named f c_leaf.frame (sym leaf.2 ∙ ap ppn is ∙ c_leaf.made.names) in
            let low = space.stands.shows.low page.0 page.1 page.3 in
            stays (inr (page.0, page.1, low, page.3, subst (IsFrameOfPage t page.0) (sym at) c_leaf.on)))
      ]
    ]

    for_child : (f : ℕ) → IsForChild f
    for_child f = elim (listed f) [
      | inl table ↦ inl (table.2, (table.0, inl table.1))
      | inr other ↦ elim (cases_eq f own) [
        | inl same ↦ inl (
          other.1 ∙ ap (λ g. times g with_own) same ∙ own_listed,
          (leaf_node (trapframe_page p.scheme), inr (tree.on_trapframe.0, tree.on_trapframe.1, tree.on_trapframe.2.names ∙ ap ppn_of (sym same))),
        )
        | inr apart ↦ (let is = other.1 ∙ other_listed f apart in elim (going f) [
          | inl there ↦ inl (is ∙ there.0, goes_named f there.1)
          | inr none ↦ inr (is ∙ none.0, goes_unnamed f apart other.0 none.1)
        ])
      ]
    ]

    pub has_child : b.credits ≡ a.credits - 1 → b.tallies ≡ spent 1 a.tallies → a.credits ≡ fork_need p → a.tallies ≡ v.tallies → HasChild v c t u p croot own M
    has_child spends tells credits tallies = record {
      tables = tree.tables;
      on_trampoline = tree.on_trampoline;
      on_trapframe = tree.on_trapframe;
      settled = tree.settled;
      only = tree.only;
      tabled = tree.tabled;
      counts = counts;
      same = λ f held. (
        ap (λ (h : Hold). h.words) (held_same f held) ∙ ap (λ (h : Hold). h.words) (more.holds f),
        ap (λ (h : Hold). h.sole) (held_same f held) ∙ ap (λ (h : Hold). h.sole) (more.holds f),
      );
      fresh = λ k f at. (table_free k f at).0;
      going = still_going;
      for_child = for_child;
      own_fresh = own_free.0;
      own_sole = ap (λ (h : Hold). h.sole) (tree.same own own_no_table) ∙ sole;
      own_apart = own_no_table;
      credits = let now = tree.credits in omega (arith, now, spends, credits);
      tallies = spent_on v.tallies b.tallies c.tallies 1 (tables_needed p.scheme (pages.keys p.settled)) (tells ∙ ap (spent 1) tallies) tree.tallies;
    }
