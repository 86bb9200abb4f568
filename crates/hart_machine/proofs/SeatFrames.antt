-- Lemmas: the frames that a process's seat holds are frame 0, its trapframe, its tables and those of its pages, as a list
-- with one entry for each reference (`HasFrames`, `process_frames`).
use Rattle.std.proofs.Common.{◌≡◌, ℕ, ◌<◌, ◌≤◌, inl, inr, ap, sym, subst, ◌∙◌, arith, List, ◌∷◌, ◌++◌, map, length, Some}
use Rattle.std.specs.Prelude.{is_some}
use Rattle.std.specs.FinMap as finite
use Rattle.std.proofs.lemmas.List.{length-map}
use Rattle.std.proofs.lemmas.Option.{same_Some}
use Rattle.frame_store.specs.View.{IsSole, View, references}
use Rattle.process_model.specs.Frames.{tables_of}
use Rattle.process_model.specs.PageMap.{get, keys}
use Rattle.process_model.specs.Process.{Page, Process}
use Rattle.sv39_entry.specs.Frame.{ppn_of}
use Rattle.sv39_entry.specs.Word.{ppn}
use Rattle.sv39_entry.specs.Schemes.{trampoline_page, trapframe_page, of_scheme}
use Rattle.table_walk.specs.Tables.{Tables, leaf_node}
use Rattle.address_space.specs.Agreement.{IsFrameOfPage, NamesFrame, no_extra, IsInMemory}
use Rattle.hart_machine.proofs.NumberLists.{Among, among_back, among_front, among_map, among_parts, Distinct, distinct_append, distinct_map, mapped_from, times, times_are}
use Rattle.hart_machine.proofs.MatchedLists.{Matched, matched, matched_append, matched_cons}
use Rattle.hart_machine.proofs.KeySets.{among_contains, contains_among, key_settled, keys_distinct, length_keys, settled_key, value}
use Rattle.hart_machine.proofs.TableNumbers.{all_of, table_numbers, table_range, tables_distinct, tables_long, way_in, way_of}

-- what the list is made of
pub record HasFrames (v : View) (trapframe : ℕ) (t : Tables) (p : Process) : Type 0 where
  pub tables : List ℕ
  pub pages : List ℕ
  pub tables_long : length tables ≡ tables_of p
  pub pages_long : length pages ≡ length p.settled.entries
  pub pages_distinct : Distinct pages
  pub of_page : (f : ℕ) → Among f pages → (n : ℕ) × (a : Page) × (get p.settled n ≡ Some a) × IsFrameOfPage t n f
  pub has_page : (f n : ℕ) (a : Page) → get p.settled n ≡ Some a → IsFrameOfPage t n f → Among f pages
  pub no_code : Among 0 pages → ⊥
  -- the seat is the sole holder of its tables and its trapframe
  pub lone : (f : ℕ) → Among f (trapframe ∷ tables) → (references v f ≡ 1) × IsSole v f
  -- each frame as often as the seat has references of it
  pub all : (f : ℕ) → times f (0 ∷ trapframe ∷ (tables ++ pages)) ≡ references v f

module _ (v : View) (root trapframe : ℕ) (t : Tables) (p : Process) (s : IsInMemory v root trapframe no_extra t p) where
  abbrev tabled : List ℕ
  tabled = keys p.tabled

  abbrev leaf_numbers : List ℕ
  leaf_numbers = map leaf_node (keys p.settled)

  abbrev every_number : List ℕ
  every_number = leaf_node (trampoline_page p.scheme) ∷ leaf_node (trapframe_page p.scheme) ∷ (table_numbers p.scheme tabled ++ leaf_numbers)

  one_named : (f g k : ℕ) → NamesFrame t f k → NamesFrame t g k → f ≡ g
  one_named f g k (inl at) (inl also) = same_Some f g (sym at ∙ also)
  one_named f g k (inl at) (inr leaf) =
      let low = (s.tables.known.below k f at).1 in
      let high = (s.tables.known.leaf_hung k leaf.0 leaf.1).1 in
      absurd (omega (arith, low, high))
  one_named f g k (inr leaf) (inl at) =
      let low = (s.tables.known.below k g at).1 in
      let high = (s.tables.known.leaf_hung k leaf.0 leaf.1).1 in
      absurd (omega (arith, low, high))
  one_named f g k (inr leaf) (inr also) =
      let word : leaf.0 ≡ also.0 = same_Some _ _ (sym leaf.1 ∙ also.1) in
      let number : ppn_of f ≡ ppn_of g = sym leaf.2 ∙ ap ppn word ∙ also.2 in
      omega (arith, number)

  page_low : (n : ℕ) → Among n (keys p.settled) → n < (trapframe_page p.scheme)
  page_low n i = let a = key_settled p.settled n i in s.shows.low n a.0 a.1

  table_there : (k : ℕ) → Among k (table_numbers p.scheme tabled) → (f : ℕ) × NamesFrame t f k
  table_there k i =
      let way = way_of p.scheme tabled s.tabled_low k i in
      let f = value (finite.get t.tables k) ((s.tabled k).1 (way.0, way.1, among_contains way.0 (all_of p.scheme tabled) way.2, way.3, way.4)) in
      (f.0, inl f.1)

  table_in : (k f : ℕ) → finite.get t.tables k ≡ Some f → Among k (table_numbers p.scheme tabled)
  table_in k f at =
      let way = (s.tabled k).0 (ap is_some at) in
      way_in p.scheme tabled s.tabled_low k way.0 way.1 (contains_among way.0 (all_of p.scheme tabled) way.2) way.3 way.4

  leaf_there : (k : ℕ) → Among k leaf_numbers → (f : ℕ) × NamesFrame t f k
  leaf_there k i =
      let n = mapped_from leaf_node k (keys p.settled) i in
      let a = key_settled p.settled n.0 n.1 in
      let shown = s.shows.settled n.0 a.0 a.1 in
      (shown.frame, inr (shown.leaf, ap (finite.get t.leaves) n.2 ∙ shown.mapped, shown.made.names))

  leaves_distinct : Distinct leaf_numbers
  leaves_distinct = distinct_map leaf_node (keys p.settled) (λ a b i j e.
      let low = page_low a i in
      let lower = page_low b j in
      omega (arith, e, low, lower)) (keys_distinct p.settled)

  leaf_far : (k page : ℕ) → (trapframe_page p.scheme) ≤ page → page ≤ (trampoline_page p.scheme) → k ≡ leaf_node page → Among k (table_numbers p.scheme tabled ++ leaf_numbers) → ⊥
  leaf_far k page from to is i =
      elim (among_parts k (table_numbers p.scheme tabled) leaf_numbers i) [
        | inl j ↦ (let low = table_range p.scheme tabled s.tabled_low k j in absurd (omega (arith, low, is)))
        | inr j ↦ (
            let n = mapped_from leaf_node k (keys p.settled) j in
            let low = page_low n.0 n.1 in
            let same = n.2 in
            absurd (omega (arith, low, is, same, from, to)))
      ]

  apart_numbers : (k : ℕ) → Among k (table_numbers p.scheme tabled) → Among k leaf_numbers → ⊥
  apart_numbers k i j =
      let low = table_range p.scheme tabled s.tabled_low k i in
      let n = mapped_from leaf_node k (keys p.settled) j in
      let same = n.2 in
      absurd (omega (arith, low, same))

  rest_distinct : Distinct (table_numbers p.scheme tabled ++ leaf_numbers)
  rest_distinct = distinct_append (table_numbers p.scheme tabled) leaf_numbers (tables_distinct p.scheme tabled s.tabled_low) leaves_distinct apart_numbers

  every_in : (k f : ℕ) → NamesFrame t f k → Among k every_number
  every_in k f (inl at) = inr (inr (among_front k (table_numbers p.scheme tabled) leaf_numbers (table_in k f at)))
  every_in k f (inr leaf) = elim (s.shows.only k leaf.0 leaf.1) [
    | inl e ↦ inl e
    | inr other ↦ elim other [
      | inl e ↦ inr (inl e)
      | inr page ↦ inr (inr (among_back k (table_numbers p.scheme tabled) leaf_numbers
          (subst (λ z. Among z leaf_numbers) (sym page.2) (among_map leaf_node page.0 (keys p.settled) (settled_key p.settled page.0 page.1 page.3)))))
    ]
  ]

  -- each list of numbers with its frames

  table_frames : (fs : List ℕ) × Matched (NamesFrame t) (table_numbers p.scheme tabled) fs
  table_frames = matched (NamesFrame t) (table_numbers p.scheme tabled) (tables_distinct p.scheme tabled s.tabled_low) table_there (λ f g k _. one_named f g k) (λ f j k _ _. s.owns.once f j k)

  page_frames : (fs : List ℕ) × Matched (NamesFrame t) leaf_numbers fs
  page_frames = matched (NamesFrame t) leaf_numbers leaves_distinct leaf_there (λ f g k _. one_named f g k) (λ f j k _ _. s.owns.once f j k)

  on_code : NamesFrame t 0 (leaf_node (trampoline_page p.scheme))
  on_code = let code = s.shows.on_trampoline in inr (code.0, code.1, code.2.names)

  on_saved : NamesFrame t trapframe (leaf_node (trapframe_page p.scheme))
  on_saved = let saved = s.shows.on_trapframe in inr (saved.0, saved.1, saved.2.names)

  with_trapframe : Matched (NamesFrame t) (leaf_node (trapframe_page p.scheme) ∷ (table_numbers p.scheme tabled ++ leaf_numbers)) (trapframe ∷ (table_frames.0 ++ page_frames.0))
  with_trapframe =
      matched_cons (NamesFrame t) (leaf_node (trapframe_page p.scheme)) trapframe _ _ (λ g r. one_named g trapframe (leaf_node (trapframe_page p.scheme)) r on_saved)
      (λ j i r. leaf_far j (trapframe_page p.scheme) (omega arith) (omega (arith, of_scheme p.scheme)) (s.owns.once trapframe j (leaf_node (trapframe_page p.scheme)) r on_saved) i) on_saved
      (matched_append (NamesFrame t) (table_numbers p.scheme tabled) leaf_numbers table_frames.0 page_frames.0 rest_distinct (λ f j k _ _. s.owns.once f j k) table_frames.1 page_frames.1 apart_numbers)

  code_apart : (j : ℕ) → Among j (leaf_node (trapframe_page p.scheme) ∷ (table_numbers p.scheme tabled ++ leaf_numbers)) → j ≡ leaf_node (trampoline_page p.scheme) → ⊥
  code_apart j (inl e) same = absurd (omega (arith, same, e, of_scheme p.scheme))
  code_apart j (inr later) same = leaf_far j (trampoline_page p.scheme) (omega (arith, of_scheme p.scheme)) (omega arith) same later

  with_code : Matched (NamesFrame t) every_number (0 ∷ trapframe ∷ (table_frames.0 ++ page_frames.0))
  with_code =
      matched_cons (NamesFrame t) (leaf_node (trampoline_page p.scheme)) 0 _ _ (λ g r. one_named g 0 (leaf_node (trampoline_page p.scheme)) r on_code)
      (λ j i r. code_apart j i (s.owns.once 0 j (leaf_node (trampoline_page p.scheme)) r on_code)) on_code with_trapframe

  -- a table's number is no leaf's
  table_named : (f k : ℕ) → Among k (table_numbers p.scheme tabled) → NamesFrame t f k → finite.get t.tables k ≡ Some f
  table_named f k i (inl at) = at
  table_named f k i (inr leaf) =
      let low = table_range p.scheme tabled s.tabled_low k i in
      let high = (s.tables.known.leaf_hung k leaf.0 leaf.1).1 in
      absurd (omega (arith, low, high))

  pub process_frames : HasFrames v trapframe t p
  process_frames = record {
    tables = table_frames.0;
    pages = page_frames.0;
    tables_long = table_frames.1.long ∙ tables_long p.scheme tabled;
    pages_long = page_frames.1.long ∙ length-map (keys p.settled) leaf_node ∙ length_keys p.settled;
    pages_distinct = page_frames.1.distinct;
    of_page = λ f i.
        let k = page_frames.1.of f i in
        let n = mapped_from leaf_node k.0 (keys p.settled) k.1 in
        let a = key_settled p.settled n.0 n.1 in
        elim k.2 [
          | inl at ↦ absurd (apart_numbers k.0 (table_in k.0 f at) k.1)
          | inr leaf ↦ (n.0, a.0, a.1, (leaf.0, ap (finite.get t.leaves) (sym n.2) ∙ leaf.1, leaf.2))
        ];
    has_page = λ f n a at on. page_frames.1.has f (leaf_node n) (among_map leaf_node n (keys p.settled) (settled_key p.settled n a at)) (inr (on.0, on.1, on.2));
    no_code = λ i. with_code.distinct.0 (inr (among_back 0 table_frames.0 page_frames.0 i));
    lone = λ f i. elim i [
      | inl e ↦ (
          let saved = s.shows.on_trapframe in
          subst (λ z. (references v z ≡ 1) × IsSole v z) (sym e)
          (s.owns.named trapframe (leaf_node (trapframe_page p.scheme)) on_saved, s.owns.writable trapframe (leaf_node (trapframe_page p.scheme)) saved.0 saved.1 saved.2.names saved.2.write))
      | inr j ↦ (let k = table_frames.1.of f j in (s.owns.named f k.0 k.2, (s.tables.own k.0 f (table_named f k.0 k.1 k.2)).1))
    ];
    all = times_are (0 ∷ trapframe ∷ (table_frames.0 ++ page_frames.0)) (references v) with_code.distinct
        (λ f i. let k = with_code.of f i in s.owns.named f k.0 k.2)
        (λ f far. s.owns.bare f (λ k names. far (with_code.has f k (every_in k f names) names)));
  }
