-- Lemmas on a page's leaf that is rewritten, over the frame that it named or over one without a name: what the seat owns
-- then, and the process with the changed page is in memory (`turned_stands`).
use Rattle.std.proofs.Common.{◌≡◌, ℕ, ◌+◌, Some, true, refl, ap, sym, subst, ◌∙◌, inl, inr, arith}
use Rattle.std.proofs.lemmas.Bool.{cases_eq}
use Rattle.std.proofs.lemmas.Option.{same_Some}
use Rattle.std.specs.FinMap.{get, insert}
use Rattle.frame_bytes.specs.Contents.{ChangesWords, HasBytes}
use Rattle.frame_store.specs.View.{View, hold_of, IsSole, references, with_word}
use Rattle.process_model.specs.PageMap as pages
use Rattle.process_model.specs.Process.{Page, Process, regions}
use Rattle.process_model.specs.Regions.{Region, region_at}
use Rattle.process_model.specs.Residence.{with_page}
use Rattle.sv39_entry.specs.Address.{has, vpn}
use Rattle.sv39_entry.specs.Frame.{ppn_of}
use Rattle.sv39_entry.specs.Word.{ppn}
use Rattle.table_walk.specs.Tables.{HasTables, Tables, last_table, leaf_node, with_leaf, walk_leaf}
use Rattle.table_walk.specs.Keys.{insert_other, insert_same}
use Rattle.table_walk.specs.Nodes.{above}
use Rattle.sv39_entry.specs.Schemes.{top_level}
use Rattle.sv39_entry.specs.declared.scheme.Scheme.{Scheme}
use Rattle.address_space.specs.Agreement.{is_dirty_page, IsPageLeaf, NamesFrame, one_extra, OwnsFrames, IsInMemory}
use Rattle.address_space.proofs.Owned.{no_table, one_else, one_ppn, one_here, same_bytes, same_owns}
use Rattle.address_space.proofs.Writing.{page_stands, words_other, words_references, words_sole}
use Rattle.address_space.proofs.LowLeaves.{settled_number}

-- what is named

module _ {z : Scheme} (v : View) (root : ℕ) (t : Tables) (h : HasTables z v root t) (page old leaf f g : ℕ) (was : get t.leaves (leaf_node page) ≡ Some old)
    (names_old : ppn old ≡ ppn_of f) (names : ppn leaf ≡ ppn_of g) where
  -- no table has the number of a leaf
  not_table : (x k : ℕ) → k ≡ leaf_node page → get t.tables k ≡ Some x → ⊥
  not_table x k at table = let low = (h.known.below k x table).1 in omega (arith, low, at)

  stays : (x k : ℕ) → (k ≡ leaf_node page → ⊥) → NamesFrame t x k → NamesFrame (with_leaf t (leaf_node page) leaf) x k
  stays x k ne (inl table) = inl table
  stays x k ne (inr y) = inr (y.0, insert_other t.leaves (leaf_node page) leaf k ne ∙ y.1, y.2)

  stayed : (x k : ℕ) → (k ≡ leaf_node page → ⊥) → NamesFrame (with_leaf t (leaf_node page) leaf) x k → NamesFrame t x k
  stayed x k ne (inl table) = inl table
  stayed x k ne (inr y) = inr (y.0, sym (insert_other t.leaves (leaf_node page) leaf k ne) ∙ y.1, y.2)

  named_here : (x k : ℕ) → k ≡ leaf_node page → NamesFrame (with_leaf t (leaf_node page) leaf) x k → x ≡ g
  named_here x k at (inl table) = absurd (not_table x k at table)
  named_here x k at (inr y) =
      one_ppn x g (sym y.2 ∙ ap ppn (same_Some y.0 leaf (sym y.1 ∙ insert_same t.leaves (leaf_node page) leaf k at)) ∙ names)

  was_here : (x k : ℕ) → k ≡ leaf_node page → NamesFrame t x k → x ≡ f
  was_here x k at (inl table) = absurd (not_table x k at table)
  was_here x k at (inr y) = one_ppn x f (sym y.2 ∙ ap ppn (same_Some y.0 old (sym y.1 ∙ ap (get t.leaves) at ∙ was)) ∙ names_old)

  here : (k : ℕ) → k ≡ leaf_node page → NamesFrame (with_leaf t (leaf_node page) leaf) g k
  here k at = inr (leaf, insert_same t.leaves (leaf_node page) leaf k at, names)

  before : (k : ℕ) → k ≡ leaf_node page → NamesFrame t f k
  before k at = inr (old, ap (get t.leaves) at ∙ was, names_old)

  written : (x k y : ℕ) → (k ≡ leaf_node page → IsSole v x) → ((ne : k ≡ leaf_node page → ⊥) → get t.leaves k ≡ Some y → IsSole v x)
      → get (insert t.leaves (leaf_node page) leaf) k ≡ Some y → IsSole v x
  written x k y on off at = elim (cases_eq k (leaf_node page)) [
    | inl is ↦ on is
    | inr ne ↦ off ne (sym (insert_other t.leaves (leaf_node page) leaf k ne) ∙ at)
  ]

  -- the frame stays
  module _ (same : g ≡ f) where
    on : (x k : ℕ) → NamesFrame t x k → NamesFrame (with_leaf t (leaf_node page) leaf) x k
    on x k name = elim (cases_eq k (leaf_node page)) [
      | inl at ↦ subst (λ y. NamesFrame (with_leaf t (leaf_node page) leaf) y k) (same ∙ sym (was_here x k at name)) (here k at)
      | inr ne ↦ stays x k ne name
    ]

    back : (x k : ℕ) → NamesFrame (with_leaf t (leaf_node page) leaf) x k → NamesFrame t x k
    back x k name = elim (cases_eq k (leaf_node page)) [
      | inl at ↦ subst (λ y. NamesFrame t y k) (sym (named_here x k at name ∙ same)) (before k at)
      | inr ne ↦ stayed x k ne name
    ]

    leaf_is : (k y : ℕ) → k ≡ leaf_node page → get (insert t.leaves (leaf_node page) leaf) k ≡ Some y → has y 2 ≡ true → has leaf 2 ≡ true
    leaf_is k y is at writes = ap (λ z. has z 2) (same_Some leaf y (sym (insert_same t.leaves (leaf_node page) leaf k is) ∙ at)) ∙ writes

    -- the seat has it alone where it may be written by the new leaf
    pub owns_same : (has leaf 2 ≡ true → IsSole v g) → (extra : ℕ → ℕ) → OwnsFrames v t extra → OwnsFrames v (with_leaf t (leaf_node page) leaf) extra
    owns_same sole extra o = record {
      once = λ x j k a b. o.once x j k (back x j a) (back x k b);
      named = λ x k name. o.named x k (back x k name);
      bare = λ x none. o.bare x (λ k name. none k (on x k name));
      writable = λ x k y at name writes.
          written x k y (λ is. subst (IsSole v) (sym (named_here x k is (inr (y, at, name)))) (sole (leaf_is k y is at writes))) (λ ne was. o.writable x k y was name writes) at;
    }

  -- a frame without a name takes the place of the one that was named
  module _ (extra after : ℕ → ℕ) (o : OwnsFrames v t extra) (free : (k : ℕ) → NamesFrame t g k → ⊥) (moves : (x : ℕ) → after x + one_extra g x ≡ extra x + one_extra f x) where
    was_named : NamesFrame t f (leaf_node page)
    was_named = before (leaf_node page) refl

    differ : g ≡ f → ⊥
    differ same = free (leaf_node page) (subst (λ y. NamesFrame t y (leaf_node page)) (sym same) was_named)

    other_moves : (x : ℕ) → (x ≡ g → ⊥) → (x ≡ f → ⊥) → after x ≡ extra x
    other_moves x here there =
        let a = one_else g x here in
        let b = one_else f x there in
        let m = moves x in
        omega (arith, a, b, m)

    free_named : (x k : ℕ) → NamesFrame t x k → x ≡ g → ⊥
    free_named x k name same = free k (subst (λ y. NamesFrame t y k) same name)

    once : (x j k : ℕ) → NamesFrame (with_leaf t (leaf_node page) leaf) x j → NamesFrame (with_leaf t (leaf_node page) leaf) x k → j ≡ k
    once x j k a b = elim (cases_eq j (leaf_node page)) [
      | inl first ↦ elim (cases_eq k (leaf_node page)) [
        | inl second ↦ first ∙ sym second
        | inr ne ↦ absurd (free k (subst (λ y. NamesFrame t y k) (named_here x j first a) (stayed x k ne b)))
      ]
      | inr apart ↦ elim (cases_eq k (leaf_node page)) [
        | inl second ↦ absurd (free j (subst (λ y. NamesFrame t y j) (named_here x k second b) (stayed x j apart a)))
        | inr ne ↦ o.once x j k (stayed x j apart a) (stayed x k ne b)
      ]
    ]

    here_count : references v g ≡ 1 + after g
    here_count =
        let was = o.bare g free in
        let one = one_here g g refl in
        let none = one_else f g differ in
        let m = moves g in
        omega (arith, was, one, none, m)

    stayed_count : (x k : ℕ) → (k ≡ leaf_node page → ⊥) → NamesFrame t x k → references v x ≡ 1 + after x
    stayed_count x k ne name =
        let same = other_moves x (free_named x k name) (λ is. ne (o.once f k (leaf_node page) (subst (λ y. NamesFrame t y k) is name) was_named)) in
        let was = o.named x k name in
        omega (arith, same, was)

    named : (x k : ℕ) → NamesFrame (with_leaf t (leaf_node page) leaf) x k → references v x ≡ 1 + after x
    named x k name = elim (cases_eq k (leaf_node page)) [
      | inl at ↦ rw (named_here x k at name) here_count
      | inr ne ↦ stayed_count x k ne (stayed x k ne name)
    ]

    pub nameless : (k : ℕ) → NamesFrame (with_leaf t (leaf_node page) leaf) f k → ⊥
    nameless k name = elim (cases_eq k (leaf_node page)) [
      | inl at ↦ differ (sym (named_here f k at name))
      | inr ne ↦ ne (o.once f k (leaf_node page) (stayed f k ne name) was_named)
    ]

    left_count : references v f ≡ after f
    left_count =
        let was = o.named f (leaf_node page) was_named in
        let one = one_here f f refl in
        let none = one_else g f (λ same. differ (sym same)) in
        let m = moves f in
        omega (arith, was, one, none, m)

    bare : (x : ℕ) → ((k : ℕ) → NamesFrame (with_leaf t (leaf_node page) leaf) x k → ⊥) → references v x ≡ after x
    bare x none = elim (cases_eq x f) [
      | inl same ↦ rw same left_count
      | inr ne ↦
          let other : x ≡ g → ⊥ = λ is. none (leaf_node page) (subst (λ y. NamesFrame (with_leaf t (leaf_node page) leaf) y (leaf_node page)) (sym is) (here (leaf_node page) refl)) in
          let same = other_moves x other ne in
          let was = o.bare x (λ k name. elim (cases_eq k (leaf_node page)) [
            | inl at ↦ ne (was_here x k at name)
            | inr apart ↦ none k (stays x k apart name)
          ]) in
          omega (arith, same, was)
    ]

    pub owns_other : IsSole v g → OwnsFrames v (with_leaf t (leaf_node page) leaf) after
    owns_other sole = record {
      once = once;
      named = named;
      bare = bare;
      writable = λ x k y at name writes.
          written x k y (λ is. subst (IsSole v) (sym (named_here x k is (inr (y, at, name)))) sole) (λ ne was. o.writable x k y was name writes) at;
    }

-- the leaf is put in the place of the one that was there

module _ (v w : View) (root trapframe : ℕ) (extra : ℕ → ℕ) (t : Tables) (p : Process) (page : ℕ) (s : Page) (r : Region) (g leaf : ℕ)
    (stands : IsInMemory v root trapframe extra t p) (settled : pages.get p.settled page ≡ Some s) (in_region : region_at (regions p) page ≡ Some r)
    (tables : HasTables p.scheme w root (with_leaf t (leaf_node page) leaf))
    (word : (x : ℕ) → get t.tables (last_table p.scheme page) ≡ Some x → w ≡ with_word x (vpn page 0) leaf v) where
  table : (x : ℕ) × (get t.tables (last_table p.scheme page) ≡ Some x)
  table =
      let shown = stands.shows.settled page s settled in
      let same = settled_number v trapframe t p page s stands.shows settled in
      let hung = (stands.tables.known.leaf_hung (walk_leaf p.scheme page) shown.leaf (ap (get t.leaves) same ∙ shown.mapped)).2 in
      (hung.0, ap (get t.tables) (sym (above p.scheme page (top_level p.scheme))) ∙ hung.1)

  pub turned_words : (x : ℕ) × ChangesWords x v w
  turned_words = let x = table in (x.0, (_, word x.0 x.1))

  pub turned_sole : (x : ℕ) → IsSole v x → IsSole w x
  turned_sole x sole = let y = turned_words in words_sole y.0 v w y.1 x sole

  pub turned_references : (x : ℕ) → references w x ≡ references v x
  turned_references x = let y = turned_words in words_references y.0 v w y.1 x

  pub turned_other : (x : ℕ) → ((k : ℕ) → get t.tables k ≡ Some x → ⊥) → hold_of w x ≡ hold_of v x
  turned_other x apart =
      let y = table in
      words_other y.0 v w (_, word y.0 y.1) x (λ same. apart (last_table p.scheme page) (y.1 ∙ ap Some (sym same)))

  -- another page in the place of the settled one
  pub turned_stands : (n : Page) → IsPageLeaf leaf g r n.cow (is_dirty_page r n) → (after : ℕ → ℕ) → ((k : ℕ) → get t.tables k ≡ Some g → ⊥) → HasBytes v g n.bytes
      → OwnsFrames v (with_leaf t (leaf_node page) leaf) after → IsInMemory w root trapframe after (with_leaf t (leaf_node page) leaf) (with_page p page n)
  turned_stands n made after apart bytes owns =
      page_stands v w trapframe t (with_leaf t (leaf_node page) leaf) p page n leaf g r
      (stands.shows.low page s settled) (λ k ne. insert_other t.leaves (leaf_node page) leaf k ne)
      (insert_same t.leaves (leaf_node page) leaf (leaf_node page) refl) made in_region
      (same_bytes v w g n.bytes (turned_other g apart) bytes)
      (λ k x f ne at names. turned_other f (no_table v t root extra stands.tables stands.owns k x f at names))
      root extra after stands tables
      (same_owns v w (with_leaf t (leaf_node page) leaf) after turned_references turned_sole owns)
      stands.tabled
