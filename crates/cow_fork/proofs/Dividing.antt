-- Lemmas for the end of a fork: the parent's seat can be split, both seats hold frame 0 if they hold any, the child's tables
-- are those of its pages, and parent and child are forked as `Forks` says (`divides`).
use Rattle.std.proofs.Common.{◌≡◌, ◌⊎◌, ℕ, ◌+◌, ◌-◌, ◌<◌, ◌≤◌, cond, true, false, IsTrue, refl, ap, sym, subst, ◌∙◌, inl, inr, Some, List, [], ◌∷◌, arith}
use Rattle.std.specs.Prelude.{All, Contains, is_some}
use Rattle.std.proofs.lemmas.List.Elements.{All-contains_itself}
use Rattle.std.specs.FinMap as finite
use Rattle.std.proofs.lemmas.Bool.{cases_eq, eq-eqb, ne_eqb}
use Rattle.frame_store.specs.Holds.{hold_of-empty}
use Rattle.frame_store.specs.Laws.{IsAnchored}
use Rattle.frame_store.specs.View.{CanSplit, empty_view, Hold, hold_of, IsHeld, not_held, references, split_off, View}
use Rattle.process_model.proofs.EachValue.{each_there, found_each}
use Rattle.process_model.specs.Process.{Page, Process}
use Rattle.process_model.specs.Insertion.{behind_more, first_or, inserted_here, inserted_other, key_in, key_out}
use Rattle.process_model.specs.PageMap as pages
use Rattle.process_model.specs.PageMap.{numbers}
use Rattle.process_model.specs.Residence.{child_of, child_page, marked, marked_page}
use Rattle.process_model.proofs.ValueSets.{none_in}
use Rattle.sv39_entry.specs.Word.{ppn}
use Rattle.sv39_entry.specs.Schemes.{trampoline_page, trapframe_page, of_scheme}
use Rattle.table_walk.specs.TableCounts.{AreTablesOf, same_members}
use Rattle.table_walk.specs.Nodes.{leaf_number, one_page}
use Rattle.table_walk.specs.SameFrames.{same_tables}
use Rattle.table_walk.specs.Tables.{HasTables, leaf_node, Tables}
use Rattle.address_space.specs.Agreement.{body, IsFrameOfPage, IsSpace, NamesFrame}
use Rattle.address_space.specs.SpacesInCalls.{IsSpaceInCall, RewritesLeaves}
use Rattle.address_space.specs.Layouts.{Layout}
use Rattle.cow_fork.specs.Children.{HasChildLeaf}
use Rattle.cow_fork.specs.Forks.{Forks, HasChild}
use Rattle.cow_fork.specs.Occurrences.{times}
use Rattle.cow_fork.specs.SplitSpaces.{AreForChild, IsSplit, IsUnnamed}
use Rattle.cow_fork.specs.ForkReferences.{IsToShare}
use Rattle.cow_fork.proofs.Counting.{found_in, in_keys}
use Rattle.cow_fork.proofs.Parted.{child_after, one_leaf, one_named, parent_after}
use Rattle.cow_fork.proofs.Splitting.{can_split, gone_to, left_of, split_credits, split_goes, split_stays, split_tallies}

-- ---- the split

left_references : (h : Hold) → (left_of h).references ≡ h.references - 1
left_references h = elim (cases_eq h.references 1) [
  | inl one ↦ ap (λ b. (cond b not_held record { references = h.references - 1; sole = false; words = h.words }).references) (eq-eqb h.references 1 one) ∙ omega (arith, one)
  | inr other ↦ ap (λ b. (cond b not_held record { references = h.references - 1; sole = false; words = h.words }).references) (ne_eqb h.references 1 other)
]

left_words : (h : Hold) → 1 < h.references → (left_of h).words ≡ h.words
left_words h more = ap (λ b. (cond b not_held record { references = h.references - 1; sole = false; words = h.words }).words) (ne_eqb h.references 1 (λ e. omega (arith, e, more)))

gone_sole : (h k : Hold) → h.references ≡ 1 → IsTrue h.sole → IsTrue (gone_to h k).sole
gone_sole h k one sole = subst IsTrue (sym (ap (λ b. cond b h.sole false) (eq-eqb h.references 1 one))) sole

module _ (v : View) (u : Tables) (L : List ℕ) (for_child : AreForChild u (λ f. times f L)) (held : (f : ℕ) → 0 < times f L → IsHeld v f) where
  abbrev pub stays_with : View
  stays_with = (split_off L v (empty_view v.size)).0

  abbrev pub goes_with : View
  goes_with = (split_off L v (empty_view v.size)).1

  once : (f : ℕ) → times f L ≤ 1
  once f = elim (for_child f) [ inl his ↦ (let one = his.0 in omega (arith, one)) | inr not_his ↦ (let none = not_his.0 in omega (arith, none)) ]

  named_times : (f k : ℕ) → NamesFrame u f k → times f L ≡ 1
  named_times f k names = elim (for_child f) [ inl his ↦ his.0 | inr not_his ↦ absurd (not_his.1 k names) ]

  unnamed_times : (f : ℕ) → IsUnnamed u f → times f L ≡ 0
  unnamed_times f none = elim (for_child f) [ inl his ↦ absurd (none his.1.0 his.1.1) | inr not_his ↦ not_his.0 ]

  pub may_split : CanSplit L v
  may_split = can_split L v (empty_view v.size) once held

  goes : (f : ℕ) → times f L ≡ 1 → (hold_of stays_with f ≡ left_of (hold_of v f)) × (hold_of goes_with f ≡ gone_to (hold_of v f) not_held)
  goes f one = let is = split_goes L v (empty_view v.size) f one in (is.0, is.1 ∙ ap (gone_to (hold_of v f)) (hold_of-empty v.size f))

  stays : (f : ℕ) → times f L ≡ 0 → (hold_of stays_with f ≡ hold_of v f) × (hold_of goes_with f ≡ not_held)
  stays f none = let is = split_stays L v (empty_view v.size) f none in (is.0, is.1 ∙ hold_of-empty v.size f)

  pub parted : IsSplit v stays_with goes_with u
  parted = record {
    kept = λ f none. (stays f (unnamed_times f none)).0;
    none = λ f none. ap (λ (h : Hold). h.references) (stays f (unnamed_times f none)).1;
    left = λ f k names. ap (λ (h : Hold). h.references) (goes f (named_times f k names)).0 ∙ left_references (hold_of v f);
    known = λ f k names more. ap (λ (h : Hold). h.words) (goes f (named_times f k names)).0 ∙ left_words (hold_of v f) more;
    came = λ f k names. ap (λ (h : Hold). h.references) (goes f (named_times f k names)).1;
    told = λ f k names. ap (λ (h : Hold). h.words) (goes f (named_times f k names)).1;
    sole = λ f k names one sole. subst IsTrue (sym (ap (λ (h : Hold). h.sole) (goes f (named_times f k names)).1)) (gone_sole (hold_of v f) not_held one sole);
    credits = (split_credits L v (empty_view v.size)).0;
    bare = (split_credits L v (empty_view v.size)).1;
  }

  module _ (code : times 0 L ≡ 1) (more : 1 < references v 0) where
    pub left_anchored : IsAnchored stays_with
    left_anchored f _ = let is = ap (λ (h : Hold). h.references) (goes 0 code).0 ∙ left_references (hold_of v 0) in omega (arith, is, more)

    pub right_anchored : IsAnchored goes_with
    right_anchored f _ = let is = ap (λ (h : Hold). h.references) (goes 0 code).1 in omega (arith, is)

-- ---- the pages that the child's tables are for

set_in : (xs : List ℕ) (y : ℕ) → Contains xs y → Contains (pages.keys (numbers xs)) y
set_in [] y h = h
set_in (x ∷ xs) y h = key_in x tt (numbers xs) y (behind_more x xs (pages.keys (numbers xs)) (set_in xs) y h)

set_out : (xs : List ℕ) (y : ℕ) → Contains (pages.keys (numbers xs)) y → Contains xs y
set_out [] y h = h
set_out (x ∷ xs) y h = behind_more x (pages.keys (numbers xs)) xs (set_out xs) y (key_out x tt (numbers xs) y h)

set_has : (xs : List ℕ) (y : ℕ) → Contains xs y → pages.contains (numbers xs) y ≡ true
set_has [] y h = absurd (none_in y h)
set_has (x ∷ xs) y h = elim (cases_eq y x) [
  | inl same ↦ ap is_some (inserted_here x tt (numbers xs) y same)
  | inr apart ↦ ap is_some (inserted_other x tt (numbers xs) y apart) ∙ elim (first_or x y xs h) [
    | inl same ↦ absurd (apart (sym same))
    | inr later ↦ set_has xs y later
  ]
]

module _ (p : Process) (low : (n : ℕ) (s : Page) → pages.get p.settled n ≡ Some s → n < (trapframe_page p.scheme)) where
  pub child_tabled : (u : Tables) → AreTablesOf p.scheme u (pages.keys p.settled) → AreTablesOf p.scheme u (pages.keys (child_of p).tabled)
  child_tabled u are = same_members p.scheme u (pages.keys p.settled) (pages.keys (numbers (pages.keys p.settled))) (set_in (pages.keys p.settled)) (set_out (pages.keys p.settled)) are

  each_low : (y : ℕ) → Contains (pages.keys p.settled) y → y < (trapframe_page p.scheme)
  each_low y h = let s = found_in p.settled.entries y h in low y s.0 s.1

  pub child_tabled_low : All (λ n. n < (trapframe_page p.scheme)) (pages.keys (child_of p).tabled)
  child_tabled_low n d less = each_low _ (set_out (pages.keys p.settled) _ (All-contains_itself (pages.keys (numbers (pages.keys p.settled))) n d less))

  pub child_has_tables : (n : ℕ) (s : Page) → pages.get (child_of p).settled n ≡ Some s → pages.contains (child_of p).tabled n ≡ true
  child_has_tables n s there = let old = found_each (child_page p) p.settled n s there in set_has (pages.keys p.settled) n (in_keys p.settled.entries n old.0 old.1)

-- ---- parent and child

module _ (v w x : View) (root saved : ℕ) (l : Layout) (t r u : Tables) (p : Process) (croot own : ℕ) (L : List ℕ)
    (space : IsSpace (body v root saved l) t p) (child : HasChild v w t u p croot own L)
    (marks : IsSpaceInCall (body x root saved l) r (marked p) (λ f. times f L)) (turns : RewritesLeaves (body w root saved l) (body x root saved l) t r) where
  counts : (f : ℕ) → references x f ≡ references v f + times f L
  counts f = let was = child.counts f in let is = turns.count f in omega (arith, was, is)

  -- a frame that the parent did not hold is none of its tables
  new_same : (f : ℕ) → references v f ≡ 0 → hold_of x f ≡ hold_of w f
  new_same f none = turns.same f (λ k at. let one = space.stands.owns.named f k (inl at) in omega (arith, one, none))

  new_unnamed : (f : ℕ) → references v f ≡ 0 → times f L ≡ 1 → IsUnnamed r f
  new_unnamed f none one k names = let has = marks.stands.owns.named f k names in let sum = counts f in omega (arith, has, sum, none, one)

  listed_held : (f : ℕ) → 0 < times f L → IsHeld x f
  listed_held f some = let sum = counts f in omega (arith, sum, some)

  named_once : (f k : ℕ) → NamesFrame u f k → times f L ≡ 1
  named_once f k names = elim (child.for_child f) [ inl his ↦ his.0 | inr not_his ↦ absurd (not_his.1 k names) ]

  code_once : times 0 L ≡ 1
  code_once = named_once 0 (leaf_node (trampoline_page p.scheme)) (inr (child.on_trampoline.0, child.on_trampoline.1, child.on_trampoline.2.names))

  own_once : times own L ≡ 1
  own_once = named_once own (leaf_node (trapframe_page p.scheme)) (inr (child.on_trapframe.0, child.on_trapframe.1, child.on_trapframe.2.names))

  code_named : NamesFrame t 0 (leaf_node (trampoline_page p.scheme))
  code_named = let leaf = space.stands.shows.on_trampoline in inr (leaf.0, leaf.1, leaf.2.names)

  code_twice : 1 < references x 0
  code_twice = let one = space.stands.owns.named 0 _ code_named in let sum = counts 0 in let again = code_once in omega (arith, one, sum, again)

  -- the leaf that names a frame that goes
  leaf_of_going : (f : ℕ) → IsToShare t p (trapframe_page p.scheme) f → (n : ℕ) × (NamesFrame t f (leaf_node n)) × ((n ≡ (trampoline_page p.scheme)) ⊎ (n < (trapframe_page p.scheme)))
  leaf_of_going f (inl code) = ((trampoline_page p.scheme), subst (λ g. NamesFrame t g (leaf_node (trampoline_page p.scheme))) (sym code) code_named, inl refl)
  leaf_of_going f (inr page) = (page.0, inr (page.4.0, page.4.1, page.4.2), inr (space.stands.shows.low page.0 page.1 page.3))

  -- the child does not name a frame that the parent has for itself
  not_shared : (f k : ℕ) → NamesFrame t f k → ((n : ℕ) → (n ≡ (trampoline_page p.scheme)) ⊎ (n < (trapframe_page p.scheme)) → k ≡ leaf_node n → ⊥) → IsUnnamed u f
  not_shared f k names off j named =
      let held : IsHeld v f = let one = space.stands.owns.named f k names in omega (arith, one) in
      let once = named_once f j named in
      let leaf = leaf_of_going f (child.going f (omega (arith, once)) held) in
      off leaf.0 leaf.2 (space.stands.owns.once f k (leaf_node leaf.0) names leaf.1)

  table_apart : (k f : ℕ) → finite.get r.tables k ≡ Some f → IsUnnamed u f
  table_apart k f at =
      let was = ap (λ m. finite.get m k) (sym turns.tables) ∙ at in
      not_shared f k (inl was) (λ n _ same. let below = (space.stands.tables.known.below k f was).1 in let above = leaf_number p.scheme n in omega (arith, below, above, same))

  saved_apart : IsUnnamed u saved
  saved_apart =
      let leaf = space.stands.shows.on_trapframe in
      not_shared saved (leaf_node (trapframe_page p.scheme)) (inr (leaf.0, leaf.1, leaf.2.names)) (λ n which same. elim which [
        | inl top ↦ (let is = one_page (trapframe_page p.scheme) n same in omega (arith, is, top, of_scheme p.scheme))
        | inr low ↦ (let is = one_page (trapframe_page p.scheme) n same in omega (arith, is, low, of_scheme p.scheme))
      ])

  -- the parent's leaf of a page names the frame that it named
  still_on : (n f : ℕ) (s : Page) → pages.get p.settled n ≡ Some s → IsFrameOfPage t n f → IsFrameOfPage r n f
  still_on n f s there on =
      let shown = marks.stands.shows.settled n (marked_page p n s) (each_there (marked_page p) p.settled n s there) in
      let now : IsFrameOfPage r n shown.frame = (shown.leaf, shown.mapped, shown.made.names) in
      let was = turns.on n shown.frame now in
      let same : shown.frame ≡ f = one_named shown.frame f (sym was.2 ∙ ap ppn (one_leaf t (leaf_node n) was.0 on.0 was.1 on.1) ∙ on.2) in
      subst (IsFrameOfPage r n) same now

  leaf_now : (n : ℕ) (s : Page) → pages.get p.settled n ≡ Some s → HasChildLeaf r u p n s
  leaf_now n s there = let c = child.settled n s there in record {
    region = c.region;
    frame = c.frame;
    leaf = c.leaf;
    in_region = c.in_region;
    on = still_on n c.frame s there c.on;
    mapped = c.mapped;
    made = c.made;
  }

  child_tables : HasTables p.scheme x croot u
  child_tables = same_tables w x croot u (λ k f at. new_same f (child.fresh k f at)) child.tables

  child_on : (n f : ℕ) (s : Page) → pages.get p.settled n ≡ Some s → IsFrameOfPage u n f → IsFrameOfPage t n f
  child_on n f s there on =
      let c = child.settled n s there in
      let same : c.frame ≡ f = one_named c.frame f (sym c.made.names ∙ ap ppn (one_leaf u (leaf_node n) c.leaf on.0 c.mapped on.1) ∙ on.2) in
      subst (IsFrameOfPage t n) same c.on

  none_left : x.credits ≡ 0
  none_left = turns.credits ∙ child.credits

  pub divide_may : CanSplit L x
  divide_may = may_split x u L child.for_child listed_held

  pub divide_left : IsAnchored (split_off L x (empty_view x.size)).0
  divide_left = left_anchored x u L child.for_child listed_held code_once code_twice

  pub divide_right : IsAnchored (split_off L x (empty_view x.size)).1
  divide_right = right_anchored x u L child.for_child listed_held code_once code_twice

  pub divides : (a b : View) → a ≡ (split_off L x (empty_view x.size)).0 → b ≡ (split_off L x (empty_view x.size)).1
      → Forks (body v root saved l) (body a root saved l) (body b croot own l) t r u p
  divides a b left right =
      let parts = parted x u L child.for_child listed_held in
      record {
        parent = rw left (parent_after x (stays_with x u L child.for_child listed_held) (goes_with x u L child.for_child listed_held) root saved l r u p (λ f. times f L) marks child.for_child parts none_left table_apart saved_apart);
        child = rw right (child_after x (stays_with x u L child.for_child listed_held) (goes_with x u L child.for_child listed_held) root saved l r u p (λ f. times f L) marks child.for_child parts none_left
            croot own child_tables child.on_trampoline child.on_trapframe leaf_now child.only
            (λ k f at. let none = child.fresh k f at in let one = named_once f k (inl at) in let sum = counts f in (omega (arith, sum, none, one), new_unnamed f none one))
            (let sum = counts own in let none = child.own_fresh in let one = own_once in omega (arith, sum, none, one))
            (subst IsTrue (sym (ap (λ (h : Hold). h.sole) (new_same own child.own_fresh))) child.own_sole)
            (new_unnamed own child.own_fresh own_once) child.own_apart
            (child_tabled p space.stands.shows.low u child.tabled) (child_tabled_low p space.stands.shows.low) (child_has_tables p space.stands.shows.low));
        on_parent = λ n f s there on. turns.on n f on;
        on_child = child_on;
        tallies = ap (λ (k : View). k.tallies) left ∙ (split_tallies L x (empty_view x.size)).0 ∙ turns.tallies ∙ child.tallies;
      }
