-- Lemmas: after the parent's seat was split, parent and child each are a process in memory by their own seats
-- (`parent_after`, `child_after`).
use Rattle.std.proofs.Common.{◌≡◌, ◌⊎◌, ℕ, ◌<◌, Bool, true, false, IsTrue, not, ◌&&◌, ◌||◌, None, Some, List, refl, ap, sym, subst, ◌∙◌, inl, inr, arith}
use Rattle.std.specs.Prelude.{All}
use Rattle.std.specs.FinMap as finite
use Rattle.std.proofs.lemmas.Option.{same_Some}
use Rattle.frame_bytes.specs.Contents.{HasBytes}
use Rattle.frame_store.specs.View.{Hold, hold_of, IsSole, references, View}
use Rattle.process_model.proofs.EachValue.{each_there, found_each}
use Rattle.process_model.proofs.OrderLaws.{same_order}
use Rattle.process_model.specs.PageMap as pages
use Rattle.process_model.specs.Process.{grants_write, Page, Process, regions}
use Rattle.process_model.specs.Regions.{lacks_right, Region, region_at}
use Rattle.process_model.specs.Residence.{child_of, child_page, marked, marked_page}
use Rattle.sv39_entry.specs.Address.{has}
use Rattle.sv39_entry.specs.Frame.{ppn_of}
use Rattle.sv39_entry.specs.Word.{ppn}
use Rattle.sv39_entry.specs.declared.access.Access.TheVariants.{Store}
use Rattle.sv39_entry.specs.Schemes.{trampoline_page, trapframe_page, of_scheme}
use Rattle.table_walk.specs.TableCounts.{AreTablesOf}
use Rattle.table_walk.specs.SameFrames.{same_tables}
use Rattle.table_walk.specs.Tables.{HasTables, leaf_node, Tables}
use Rattle.address_space.specs.Agreement.{body, code_rights, data_rights, HasKernelLeaf, IsLeafNumber, IsFrameOfPage, IsShown, IsSpace, NamesFrame, no_extra, OwnsFrames, ShowsPages}
use Rattle.address_space.specs.SpacesInCalls.{IsSpaceInCall}
use Rattle.address_space.specs.Layouts.{Layout}
use Rattle.cow_fork.specs.Children.{HasChildLeaf}
use Rattle.cow_fork.specs.SplitSpaces.{AreForChild, IsSplit, IsUnnamed}

-- bytes are words that are known
same_bytes : (v w : View) (f : ℕ) (bytes : List ℕ) → (hold_of w f).words ≡ (hold_of v f).words → HasBytes v f bytes → HasBytes w f bytes
same_bytes v w f bytes same has = record { length = has.length; small = has.small; words = λ i low. ap (λ m. finite.get m i) same ∙ has.words i low }

-- the leaf of a marked page is not writable
no_write : (p : Process) (n : ℕ) (s : Page) (r : Region) → region_at (regions p) n ≡ Some r → (r.writes && not (marked_page p n s).cow) ≡ true → ⊥
no_write p n s r in_region writes =
    let grants : grants_write p n ≡ r.writes = ap (λ o. not (lacks_right Store o)) in_region ∙ twice r.writes in
    go r.writes s.cow (subst (λ g. (r.writes && not (s.cow || g)) ≡ true) grants writes) where
      twice : (b : Bool) → not (not b) ≡ b
      twice true = refl
      twice false = refl

      go : (w m : Bool) → (w && not (m || w)) ≡ true → ⊥
      go true true e = cc
      go true false e = cc
      go false m e = cc

-- two leaves of one number are one
pub one_leaf : (t : Tables) (k x y : ℕ) → finite.get t.leaves k ≡ Some x → finite.get t.leaves k ≡ Some y → x ≡ y
one_leaf t k x y at also = same_Some x y (sym at ∙ also)

-- a frame is told by its number in a leaf
pub one_named : (f g : ℕ) → ppn_of f ≡ ppn_of g → f ≡ g
one_named f g same = omega (arith, same)

module _ (v a b : View) (root saved : ℕ) (l : Layout) (t u : Tables) (p : Process) (extra : ℕ → ℕ)
    (parent : IsSpaceInCall (body v root saved l) t (marked p) extra) (for_child : AreForChild u extra) (parts : IsSplit v a b u) (none : v.credits ≡ 0) where
  abbrev owns : OwnsFrames v t extra
  owns = parent.stands.owns

  abbrev shows : ShowsPages v saved t (marked p)
  shows = parent.stands.shows

  module _ (table_apart : (k f : ℕ) → finite.get t.tables k ≡ Some f → IsUnnamed u f) (saved_apart : IsUnnamed u saved) where
    -- a leaf of the parent that may be written is the trapframe's
    writable : (f n x : ℕ) → finite.get t.leaves n ≡ Some x → ppn x ≡ ppn_of f → has x 2 ≡ true → IsSole a f
    writable f n x at names writes = elim (shows.only n x at) [
      | inl same ↦ absurd (
          let leaf = shows.on_trampoline in
          let is : leaf.0 ≡ x = one_leaf t n leaf.0 x (ap (finite.get t.leaves) same ∙ leaf.1) at in
          let not_so : has x 2 ≡ false = ap (λ z. has z 2) (sym is) ∙ leaf.2.write in
          cc)
      | inr other ↦ elim other [
        | inl same ↦ (
            let leaf = shows.on_trapframe in
            let is : leaf.0 ≡ x = one_leaf t n leaf.0 x (ap (finite.get t.leaves) same ∙ leaf.1) at in
            let here : saved ≡ f = one_named saved f (sym leaf.2.names ∙ ap ppn is ∙ names) in
            let sole : IsSole v f = owns.writable f n x at names writes in
            subst (λ (h : Hold). IsTrue h.sole) (sym (parts.kept f (subst (IsUnnamed u) here saved_apart))) sole)
        | inr page ↦ absurd (
            let shown = shows.settled page.0 page.1 page.3 in
            let is : shown.leaf ≡ x = one_leaf t n shown.leaf x (ap (finite.get t.leaves) page.2 ∙ shown.mapped) at in
            let was = found_each (marked_page p) p.settled page.0 page.1 page.3 in
            let written : (shown.region.writes && not (marked_page p page.0 was.0).cow) ≡ true = ap (λ (z : Page). shown.region.writes && not z.cow) was.2 ∙ sym shown.made.write ∙ ap (λ z. has z 2) is ∙ writes in
            no_write p page.0 was.0 shown.region shown.in_region written)
      ]
    ]

    owns_after : OwnsFrames a t no_extra
    owns_after = record {
      once = owns.once;
      named = λ f k names. let was = owns.named f k names in elim (for_child f) [
        | inl his ↦ (let left = parts.left f his.1.0 his.1.1 in let one = his.0 in omega (arith, was, left, one))
        | inr not_his ↦ (let kept = ap (λ (h : Hold). h.references) (parts.kept f not_his.1) in let zero = not_his.0 in omega (arith, was, kept, zero))
      ];
      bare = λ f off. let was = owns.bare f off in elim (for_child f) [
        | inl his ↦ (let left = parts.left f his.1.0 his.1.1 in let one = his.0 in omega (arith, was, left, one))
        | inr not_his ↦ (let kept = ap (λ (h : Hold). h.references) (parts.kept f not_his.1) in let zero = not_his.0 in omega (arith, was, kept, zero))
      ];
      writable = writable;
    }

    -- what was known of a page's frame still is
    words_stay : (f k : ℕ) → NamesFrame t f k → (hold_of a f).words ≡ (hold_of v f).words
    words_stay f k names = let was = owns.named f k names in elim (for_child f) [
      | inl his ↦ (let one = his.0 in parts.known f his.1.0 his.1.1 (omega (arith, was, one)))
      | inr not_his ↦ ap (λ (h : Hold). h.words) (parts.kept f not_his.1)
    ]

    pub parent_after : IsSpace (body a root saved l) t (marked p)
    parent_after = record {
      sound = parent.sound;
      lays = parent.lays;
      stands = record {
        tables = same_tables v a root t (λ k f at. parts.kept f (table_apart k f at)) parent.stands.tables;
        owns = owns_after;
        shows = record {
          on_trampoline = shows.on_trampoline;
          on_trapframe = shows.on_trapframe;
          settled = λ n s there. let shown = shows.settled n s there in record {
            region = shown.region;
            frame = shown.frame;
            leaf = shown.leaf;
            in_region = shown.in_region;
            mapped = shown.mapped;
            made = shown.made;
            bytes = same_bytes v a shown.frame s.bytes (words_stay shown.frame (leaf_node n) (inr (shown.leaf, shown.mapped, shown.made.names))) shown.bytes;
          };
          only = shows.only;
          low = shows.low;
        };
        tabled = parent.stands.tabled;
        tabled_low = parent.stands.tabled_low;
      };
      credits = parts.credits ∙ none;
    }

  -- the child

  module _ (croot own : ℕ) (tree : HasTables p.scheme v croot u) (on_trampoline : HasKernelLeaf u (trampoline_page p.scheme) 0 code_rights) (on_trapframe : HasKernelLeaf u (trapframe_page p.scheme) own data_rights)
      (settled : (n : ℕ) (s : Page) → pages.get p.settled n ≡ Some s → HasChildLeaf t u p n s) (only : (k x : ℕ) → finite.get u.leaves k ≡ Some x → IsLeafNumber p k)
      (fresh : (k f : ℕ) → finite.get u.tables k ≡ Some f → (references v f ≡ 1) × IsUnnamed t f)
      (own_once : references v own ≡ 1) (own_sole : IsSole v own) (own_unnamed : IsUnnamed t own) (own_apart : (k : ℕ) → finite.get u.tables k ≡ Some own → ⊥) where
    -- what the leaf of a number is for
    abbrev IsLeafFor : ℕ → ℕ → Type 0
    IsLeafFor k f = ((k ≡ leaf_node (trampoline_page p.scheme)) × (f ≡ 0)) ⊎ (((k ≡ leaf_node (trapframe_page p.scheme)) × (f ≡ own)) ⊎ ((n : ℕ) × (s : Page) × (k ≡ leaf_node n) × (pages.get p.settled n ≡ Some s) × IsFrameOfPage t n f))

    leaf_for : (k x f : ℕ) → finite.get u.leaves k ≡ Some x → ppn x ≡ ppn_of f → IsLeafFor k f
    leaf_for k x f at names = elim (only k x at) [
      | inl same ↦ inl (same, (let is = one_leaf u k x on_trampoline.0 at (ap (finite.get u.leaves) same ∙ on_trampoline.1) in one_named f 0 (sym names ∙ ap ppn is ∙ on_trampoline.2.names)))
      | inr other ↦ elim other [
        | inl same ↦ inr (inl (same, (let is = one_leaf u k x on_trapframe.0 at (ap (finite.get u.leaves) same ∙ on_trapframe.1) in one_named f own (sym names ∙ ap ppn is ∙ on_trapframe.2.names))))
        | inr page ↦ (
            let c = settled page.0 page.1 page.3 in
            let is = one_leaf u k x c.leaf at (ap (finite.get u.leaves) page.2 ∙ c.mapped) in
            let here : c.frame ≡ f = one_named c.frame f (sym c.made.names ∙ sym (ap ppn is) ∙ names) in
            inr (inr (page.0, page.1, page.2, page.3, subst (IsFrameOfPage t page.0) here c.on)))
      ]
    ]

    on_names : (n f : ℕ) → IsFrameOfPage t n f → NamesFrame t f (leaf_node n)
    on_names n f on = inr (on.0, on.1, on.2)

    code_named : NamesFrame t 0 (leaf_node (trampoline_page p.scheme))
    code_named = let leaf = shows.on_trampoline in inr (leaf.0, leaf.1, leaf.2.names)

    low : (n : ℕ) (s : Page) → pages.get p.settled n ≡ Some s → n < (trapframe_page p.scheme)
    low n s there = shows.low n (marked_page p n s) (each_there (marked_page p) p.settled n s there)

    -- a page's frame is not the trampoline's
    not_code : (n f : ℕ) (s : Page) → pages.get p.settled n ≡ Some s → IsFrameOfPage t n f → f ≡ 0 → ⊥
    not_code n f s there on nought =
        let same = owns.once 0 (leaf_node n) (leaf_node (trampoline_page p.scheme)) (subst (λ g. NamesFrame t g (leaf_node n)) nought (on_names n f on)) code_named in
        let small = low n s there in
        omega (arith, same, small, of_scheme p.scheme)

    leaves_once : (f j k : ℕ) → IsLeafFor j f → IsLeafFor k f → j ≡ k
    leaves_once f j k (inl code) (inl also) = code.0 ∙ sym also.0
    leaves_once f j k (inl code) (inr (inl saved_)) = absurd (own_unnamed (leaf_node (trampoline_page p.scheme)) (subst (λ g. NamesFrame t g (leaf_node (trampoline_page p.scheme))) (sym code.1 ∙ saved_.1) code_named))
    leaves_once f j k (inl code) (inr (inr page)) = absurd (not_code page.0 f page.1 page.3 page.4 code.1)
    leaves_once f j k (inr (inl saved_)) (inl code) = absurd (own_unnamed (leaf_node (trampoline_page p.scheme)) (subst (λ g. NamesFrame t g (leaf_node (trampoline_page p.scheme))) (sym code.1 ∙ saved_.1) code_named))
    leaves_once f j k (inr (inl saved_)) (inr (inl also)) = saved_.0 ∙ sym also.0
    leaves_once f j k (inr (inl saved_)) (inr (inr page)) = absurd (own_unnamed (leaf_node page.0) (subst (λ g. NamesFrame t g (leaf_node page.0)) saved_.1 (on_names page.0 f page.4)))
    leaves_once f j k (inr (inr page)) (inl code) = absurd (not_code page.0 f page.1 page.3 page.4 code.1)
    leaves_once f j k (inr (inr page)) (inr (inl saved_)) = absurd (own_unnamed (leaf_node page.0) (subst (λ g. NamesFrame t g (leaf_node page.0)) saved_.1 (on_names page.0 f page.4)))
    leaves_once f j k (inr (inr page)) (inr (inr also)) =
        page.2 ∙ owns.once f (leaf_node page.0) (leaf_node also.0) (on_names page.0 f page.4) (on_names also.0 f also.4) ∙ sym also.2

    -- no leaf names a table
    table_alone : (f j k : ℕ) → finite.get u.tables j ≡ Some f → IsLeafFor k f → ⊥
    table_alone f j k at (inl code) = (fresh j f at).1 (leaf_node (trampoline_page p.scheme)) (subst (λ g. NamesFrame t g (leaf_node (trampoline_page p.scheme))) (sym code.1) code_named)
    table_alone f j k at (inr (inl saved_)) = own_apart j (at ∙ ap (λ g. Some g) saved_.1)
    table_alone f j k at (inr (inr page)) = (fresh j f at).1 (leaf_node page.0) (on_names page.0 f page.4)

    once : (f j k : ℕ) → NamesFrame u f j → NamesFrame u f k → j ≡ k
    once f j k (inl at) (inl also) = tree.known.apart j k f at also
    once f j k (inl at) (inr leaf) = absurd (table_alone f j k at (leaf_for k leaf.0 f leaf.1 leaf.2))
    once f j k (inr leaf) (inl at) = absurd (table_alone f k j at (leaf_for j leaf.0 f leaf.1 leaf.2))
    once f j k (inr leaf) (inr other) = leaves_once f j k (leaf_for j leaf.0 f leaf.1 leaf.2) (leaf_for k other.0 f other.1 other.2)

    -- a leaf of the child that may be written is the trapframe's
    child_writable : (f n x : ℕ) → finite.get u.leaves n ≡ Some x → ppn x ≡ ppn_of f → has x 2 ≡ true → IsSole b f
    child_writable f n x at names writes = elim (only n x at) [
      | inl same ↦ absurd (
          let is : on_trampoline.0 ≡ x = one_leaf u n on_trampoline.0 x (ap (finite.get u.leaves) same ∙ on_trampoline.1) at in
          let not_so : has x 2 ≡ false = ap (λ z. has z 2) (sym is) ∙ on_trampoline.2.write in
          cc)
      | inr other ↦ elim other [
        | inl same ↦ (
            let is : on_trapframe.0 ≡ x = one_leaf u n on_trapframe.0 x (ap (finite.get u.leaves) same ∙ on_trapframe.1) at in
            let here : own ≡ f = one_named own f (sym on_trapframe.2.names ∙ ap ppn is ∙ names) in
            subst (IsSole b) here (parts.sole own (leaf_node (trapframe_page p.scheme)) (inr (on_trapframe.0, on_trapframe.1, on_trapframe.2.names)) own_once own_sole))
        | inr page ↦ absurd (
            let c = settled page.0 page.1 page.3 in
            let is : c.leaf ≡ x = one_leaf u n c.leaf x (ap (finite.get u.leaves) page.2 ∙ c.mapped) at in
            no_write p page.0 page.1 c.region c.in_region (sym c.made.write ∙ ap (λ z. has z 2) is ∙ writes))
      ]
    ]

    child_shown : (n : ℕ) (s : Page) → pages.get (child_of p).settled n ≡ Some s → IsShown b u (child_of p) n s
    child_shown n s there =
        let was = found_each (child_page p) p.settled n s there in
        let c = settled n was.0 was.1 in
        let shown = shows.settled n (marked_page p n was.0) (each_there (marked_page p) p.settled n was.0 was.1) in
        let is = one_leaf t (leaf_node n) shown.leaf c.on.0 shown.mapped c.on.1 in
        let here : shown.frame ≡ c.frame = one_named shown.frame c.frame (sym shown.made.names ∙ ap ppn is ∙ c.on.2) in
        let bytes : HasBytes v c.frame was.0.bytes = subst (λ f. HasBytes v f was.0.bytes) here shown.bytes in
        subst (IsShown b u (child_of p) n) was.2 (record {
          region = c.region;
          frame = c.frame;
          leaf = c.leaf;
          in_region = c.in_region;
          mapped = c.mapped;
          made = c.made;
          bytes = same_bytes v b c.frame was.0.bytes (parts.told c.frame (leaf_node n) (inr (c.leaf, c.mapped, c.made.names))) bytes;
        })

    child_only : (k x : ℕ) → finite.get u.leaves k ≡ Some x → IsLeafNumber (child_of p) k
    child_only k x at = elim (only k x at) [
      | inl same ↦ inl same
      | inr other ↦ elim other [
        | inl same ↦ inr (inl same)
        | inr page ↦ inr (inr (page.0, child_page p page.0 page.1, page.2, each_there (child_page p) p.settled page.0 page.1 page.3))
      ]
    ]

    pub child_after : AreTablesOf p.scheme u (pages.keys (child_of p).tabled) → All (λ n. n < (trapframe_page p.scheme)) (pages.keys (child_of p).tabled)
        → ((n : ℕ) (s : Page) → pages.get (child_of p).settled n ≡ Some s → pages.contains (child_of p).tabled n ≡ true) → IsSpace (body b croot own l) u (child_of p)
    child_after tabled tabled_low has_tables = record {
      sound = record { order = same_order 0 (marked p) (child_of p).settled (child_of p).tabled None parent.sound.order; tabled = has_tables };
      lays = record { parts = parent.lays.parts; mappings = parent.lays.mappings; heap_base = parent.lays.heap_base; size = parent.lays.size; scheme = parent.lays.scheme };
      stands = record {
        tables = record {
          known = record {
            rooted = tree.known.rooted;
            words = λ k f i at small. ap (λ m. finite.get m i) (parts.told f k (inl at)) ∙ tree.known.words k f i at small;
            apart = tree.known.apart;
            below = tree.known.below;
            hung = tree.known.hung;
            leaf_hung = tree.known.leaf_hung;
          };
          own = λ k f at. ((let one = parts.came f k (inl at) in omega (arith, one)), parts.sole f k (inl at) (fresh k f at).0 (tree.own k f at).1);
        };
        owns = record { once = once; named = parts.came; bare = parts.none; writable = child_writable };
        shows = record {
          on_trampoline = on_trampoline;
          on_trapframe = on_trapframe;
          settled = child_shown;
          only = child_only;
          low = λ n s there. let was = found_each (child_page p) p.settled n s there in low n was.0 was.1;
        };
        tabled = tabled;
        tabled_low = tabled_low;
      };
      credits = parts.bare;
    }
