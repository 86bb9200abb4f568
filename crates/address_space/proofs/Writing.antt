-- Lemmas on a settled page (one in memory) whose frame or bytes change while the references of the seat stay: the frame of
-- the page (`HasPage`), the process with the changed page in memory (`page_stands`), and a write to a page whose frame the
-- seat alone holds (`page_written`).
use Rattle.std.proofs.Common.{◌≡◌, ℕ, ◌<◌, ◌%◌, ◌&&◌, not, Bool, List, Option, Some, IsTrue, true, false, refl, ap, sym, subst, ◌∙◌, inl, inr, arith, []}
use Rattle.std.specs.Prelude.{option_and_then, option_map}
use Rattle.std.proofs.lemmas.Bool.{cases_eq, ne_eqb}
use Rattle.std.proofs.lemmas.Bool.Decides.{nat_tests}
use Rattle.std.proofs.lemmas.Option.{same_Some}
use Rattle.std.specs.Cmp.{nat_cmp_total}
use Rattle.std.specs.FinMap.{get}
use Rattle.std.specs.FinMap.Entries.{find-put}
use Rattle.std.specs.Ordering.{nat_cmp, eq_by_cmp}
use Rattle.frame_bytes.specs.Contents.{ChangesWords, HasBytes}
use Rattle.frame_store.specs.Holds.{hold_of-with_hold_same, hold_of-with_hold_other}
use Rattle.frame_store.specs.Tallies.{taken_none}
use Rattle.frame_store.specs.View.{Hold, View, hold_of, IsHeld, IsSole, references}
use Rattle.process_model.specs.Bytes.{is_width}
use Rattle.process_model.specs.PageMap as pages
use Rattle.process_model.specs.Process.{Page, Process, regions}
use Rattle.process_model.specs.Regions.{Region, region_at}
use Rattle.process_model.specs.Residence.{with_page}
use Rattle.sv39_entry.specs.Address.{has}
use Rattle.sv39_entry.specs.Flags.{has_flag_is}
use Rattle.sv39_entry.specs.Frame.{frame_at, ppn_of}
use Rattle.sv39_entry.specs.Word.{has_flag, ppn}
use Rattle.sv39_entry.specs.declared.frame.FrameNo.{FrameNo}
use Rattle.sv39_entry.specs.Schemes.{trampoline_page, trapframe_page, of_scheme}
use Rattle.table_walk.specs.TableCounts.{AreTablesOf}
use Rattle.table_walk.specs.Tables.{HasTables, Tables, leaf_node}
use Rattle.table_walk.specs.SameFrames.{same_tables}
use Rattle.address_space.specs.Agreement.{body, IsSpace, is_dirty_page, IsPageLeaf, IsLeafNumber, IsFrameOfPage, IsShown, NamesFrame, no_extra, KeepsOtherLeaves, OwnsFrames, ShowsPages, IsInMemory}
use Rattle.address_space.specs.Layouts.{Layout, LaysOut}
use Rattle.address_space.specs.ProcessLeaves.{frame_is}
use Rattle.address_space.specs.SpacesInCalls.{HasSettledPage}
use Rattle.address_space.specs.Steps.{CanRead, CanWrite, TakesFrames}
use Rattle.address_space.proofs.Sound.{sound_page}
use Rattle.address_space.proofs.Owned.{named_held, no_table, one_ppn, same_bytes, same_owns}
use Rattle.table_walk.specs.Nodes.{one_page}

-- words of one frame

module _ (f : ℕ) (v w : View) (changes : ChangesWords f v w) where
  words_here : hold_of w f ≡ record (hold_of v f) { words = changes.0 }
  words_here = ap (λ z. hold_of z f) changes.1 ∙ hold_of-with_hold_same f (record (hold_of v f) { words = changes.0 }) v

  pub words_other : (g : ℕ) → (g ≡ f → ⊥) → hold_of w g ≡ hold_of v g
  words_other g apart = ap (λ z. hold_of z g) changes.1 ∙ hold_of-with_hold_other f (record (hold_of v f) { words = changes.0 }) v g apart

  pub words_references : (g : ℕ) → references w g ≡ references v g
  words_references g = elim (cases_eq g f) [
    | inl same ↦ ap (references w) same ∙ ap (λ (h : Hold). h.references) words_here ∙ ap (references v) (sym same)
    | inr apart ↦ ap (λ (h : Hold). h.references) (words_other g apart)
  ]

  pub words_sole : (g : ℕ) → IsSole v g → IsSole w g
  words_sole g sole = elim (cases_eq g f) [
    | inl same ↦ ap (λ k. (hold_of w k).sole) same ∙ ap (λ (h : Hold). h.sole) words_here ∙ ap (λ k. (hold_of v k).sole) (sym same) ∙ sole
    | inr apart ↦ ap (λ (h : Hold). h.sole) (words_other g apart) ∙ sole
  ]

-- the frame of a settled page

-- the leaf of a page is over this frame, which has its bytes
pub record HasPage (v : View) (t : Tables) (p : Process) (page : ℕ) (s : Page) (f : ℕ) : Type 0 where
  pub region : Region
  pub leaf : ℕ
  pub in_region : region_at (regions p) page ≡ Some region
  pub mapped : get t.leaves (leaf_node page) ≡ Some leaf
  pub made : IsPageLeaf leaf f region s.cow (is_dirty_page region s)
  pub bytes : HasBytes v f s.bytes
  pub held : IsHeld v f
  pub low : page < (trapframe_page p.scheme)

pub page_here : (v : View) (root trapframe : ℕ) (extra : ℕ → ℕ) (t : Tables) (p : Process) (page : ℕ) (s : Page) → IsInMemory v root trapframe extra t p
    → pages.get p.settled page ≡ Some s → (f : ℕ) × HasPage v t p page s f
page_here v root trapframe extra t p page s stands settled =
    let shown = stands.shows.settled page s settled in (
      shown.frame,
      record {
        region = shown.region;
        leaf = shown.leaf;
        in_region = shown.in_region;
        mapped = shown.mapped;
        made = shown.made;
        bytes = shown.bytes;
        held = named_held v t extra stands.owns shown.frame (leaf_node page) (inr (shown.leaf, shown.mapped, shown.made.names));
        low = stands.shows.low page s settled;
      },
    )

module _ (v : View) (t : Tables) (p : Process) (page : ℕ) (s : Page) (f : ℕ) (here : HasPage v t p page s f) (o : Option (FrameNo × Bool))
    (is : o ≡ option_and_then (λ w. option_map (λ f. (f, has_flag w 128)) (frame_at (ppn w))) (get t.leaves (leaf_node page))) where
  pub page_found : o ≡ Some (record { 0 = f }, is_dirty_page here.region s)
  page_found =
      is ∙ ap (option_and_then (λ w. option_map (λ f. (f, has_flag w 128)) (frame_at (ppn w)))) here.mapped
      ∙ ap (option_map (λ f. (f, has_flag here.leaf 128))) (ap frame_at here.made.names ∙ frame_is f here.made.small)
      ∙ ap (λ dirty. Some (record { 0 = f }, dirty)) (has_flag_is here.leaf 7 ∙ here.made.dirty)

  pub page_on : (x : FrameNo × Bool) → o ≡ Some x → HasPage v t p page s (x.0).0
  page_on x found = subst (HasPage v t p page s) (ap (λ (x : FrameNo × Bool). (x.0).0) (same_Some _ x (sym page_found ∙ found))) here

-- the frame of the leaf is the page's
pub on_page : (v : View) (root trapframe : ℕ) (l : Layout) (t : Tables) (p : Process) (page : ℕ) (s : Page) (f : ℕ) → HasSettledPage (body v root trapframe l) t p page s
    → IsFrameOfPage t page f → HasPage v t p page s f
on_page v root trapframe l t p page s f can on =
    let here = page_here v root trapframe no_extra t p page s can.standing.stands can.settled in
    let same : here.0 ≡ f = one_ppn here.0 f (sym here.1.made.names ∙ ap ppn (same_Some here.1.leaf on.0 (sym here.1.mapped ∙ on.1)) ∙ on.2) in
    subst (HasPage v t p page s) same here.1

-- pages of a process after one was put

same_key : (q k : ℕ) → q ≡ k → eq_by_cmp nat_cmp q k ≡ true
same_key q k e = grind (arith, nat_tests)

other_key : (q k : ℕ) → (q ≡ k → ⊥) → eq_by_cmp nat_cmp q k ≡ false
other_key q k e = grind (arith, nat_tests)

put_here : (m : pages.PageMap Page) (k q : ℕ) (x : Page) → q ≡ k → pages.get (pages.insert m k x) q ≡ Some x
put_here m k q x same = find-put nat_cmp nat_cmp_total q k x m.entries ∙ rw (same_key q k same)

put_other : (m : pages.PageMap Page) (k q : ℕ) (x : Page) → (q ≡ k → ⊥) → pages.get (pages.insert m k x) q ≡ pages.get m q
put_other m k q x apart = find-put nat_cmp nat_cmp_total q k x m.entries ∙ rw (other_key q k apart)

-- One page has this leaf over this frame; the frames of the other leaves have the holds that they had.
module _ (v w : View) (trapframe : ℕ) (t u : Tables) (p : Process) (page : ℕ) (s : Page) (leaf g : ℕ) (region : Region)
    (low : page < (trapframe_page p.scheme)) (others : KeepsOtherLeaves t u page) (mapped : get u.leaves (leaf_node page) ≡ Some leaf)
    (made : IsPageLeaf leaf g region s.cow (is_dirty_page region s)) (in_region : region_at (regions p) page ≡ Some region) (bytes : HasBytes w g s.bytes)
    (apart : (k x f : ℕ) → (k ≡ leaf_node page → ⊥) → get t.leaves k ≡ Some x → ppn x ≡ ppn_of f → hold_of w f ≡ hold_of v f) where
  away : (n : ℕ) → (n ≡ page → ⊥) → leaf_node n ≡ leaf_node page → ⊥
  away n ne same = ne (one_page n page same)

  there : (n : ℕ) (x : Page) → (n ≡ page → ⊥) → n < (trapframe_page p.scheme) → IsShown v t p n x → IsShown w u (with_page p page s) n x
  there n x ne small shown = record {
    region = shown.region;
    frame = shown.frame;
    leaf = shown.leaf;
    in_region = shown.in_region;
    mapped = others (leaf_node n) (away n ne) ∙ shown.mapped;
    made = shown.made;
    bytes = same_bytes v w shown.frame x.bytes (apart _ _ _ (away n ne) shown.mapped shown.made.names) shown.bytes;
  }

  shown_here : (n : ℕ) (x : Page) → n ≡ page → s ≡ x → IsShown w u (with_page p page s) n x
  shown_here n x at is =
      subst (λ k. IsShown w u (with_page p page s) k x) (sym at)
      (subst (IsShown w u (with_page p page s) page) is
      (record { region = region; frame = g; leaf = leaf; in_region = in_region; mapped = mapped; made = made; bytes = bytes }))

  number_here : IsLeafNumber (with_page p page s) (leaf_node page)
  number_here = inr (inr (page, s, refl, put_here p.settled page page s refl))

  number_kept : (k : ℕ) → (k ≡ leaf_node page → ⊥) → IsLeafNumber p k → IsLeafNumber (with_page p page s) k
  number_kept k ne (inl is) = inl is
  number_kept k ne (inr (inl is)) = inr (inl is)
  number_kept k ne (inr (inr x)) =
      inr (inr (x.0, x.1, x.2, put_other p.settled page x.0 s (λ same. ne (x.2 ∙ ap leaf_node same)) ∙ x.3))

  page_shows : ShowsPages v trapframe t p → ShowsPages w trapframe u (with_page p page s)
  page_shows shows = record {
    on_trampoline =
        let is = shows.on_trampoline in
        (is.0, others (leaf_node (trampoline_page p.scheme)) (away (trampoline_page p.scheme) (λ same. omega (arith, same, low, of_scheme p.scheme))) ∙ is.1, is.2);
    on_trapframe =
        let is = shows.on_trapframe in
        (is.0, others (leaf_node (trapframe_page p.scheme)) (away (trapframe_page p.scheme) (λ same. omega (arith, same, low, of_scheme p.scheme))) ∙ is.1, is.2);
    settled = λ n x at. elim (cases_eq n page) [
      | inl same ↦ shown_here n x same (same_Some s x (sym (put_here p.settled page n s same) ∙ at))
      | inr ne ↦ let was = sym (put_other p.settled page n s ne) ∙ at in there n x ne (shows.low n x was) (shows.settled n x was)
    ];
    only = λ k x at. elim (cases_eq k (leaf_node page)) [
      | inl same ↦ subst (IsLeafNumber (with_page p page s)) (sym same) number_here
      | inr ne ↦ number_kept k ne (shows.only k x (sym (others k ne) ∙ at))
    ];
    low = λ n x at. elim (cases_eq n page) [
      | inl same ↦ rw same low
      | inr ne ↦ shows.low n x (sym (put_other p.settled page n s ne) ∙ at)
    ];
  }

  pub page_stands : (root : ℕ) (before after : ℕ → ℕ) → IsInMemory v root trapframe before t p → HasTables p.scheme w root u → OwnsFrames w u after
      → AreTablesOf p.scheme u (pages.keys p.tabled) → IsInMemory w root trapframe after u (with_page p page s)
  page_stands root before after stands tables owns tabled = record {
    tables = tables;
    owns = owns;
    shows = page_shows stands.shows;
    tabled = tabled;
    tabled_low = stands.tabled_low;
  }

-- regions are the same
pub lays_with : (l : Layout) (p : Process) (page : ℕ) (s : Page) → LaysOut l p → LaysOut l (with_page p page s)
lays_with l p page s lays = record { parts = lays.parts; mappings = lays.mappings; heap_base = lays.heap_base; size = lays.size; scheme = lays.scheme }

-- a page is written

-- a page that may be written is the seat's alone
pub page_sole : (v : View) (root trapframe : ℕ) (l : Layout) (t : Tables) (p : Process) (page : ℕ) (s : Page) (f : ℕ) → CanWrite (body v root trapframe l) t p page s
    → HasPage v t p page s f → IsSole v f
page_sole v root trapframe l t p page s f can here =
    let same = same_Some here.region can.region (sym here.in_region ∙ can.in_region) in
    can.read.agrees.stands.owns.writable f (leaf_node page) here.leaf here.mapped here.made.names
    (here.made.write ∙ ap (λ (r : Region). r.writes && not s.cow) same ∙ ap (λ b. b && not s.cow) can.writes ∙ ap not can.unmarked)

pub page_written : (v w : View) (root trapframe : ℕ) (l : Layout) (t : Tables) (p : Process) (page : ℕ) (s : Page) (f : ℕ) (bytes : List ℕ)
    → CanRead (body v root trapframe l) t p page s → HasPage v t p page s f → ChangesWords f v w → HasBytes w f bytes
    → IsSpace (body w root trapframe l) t (with_page p page (record s { bytes = bytes }))
page_written v w root trapframe l t p page s f bytes can here changes has =
    let stands = can.agrees.stands in
    let named = inr (here.leaf, here.mapped, here.made.names) in
    let apart = λ (k x g : ℕ) (ne : k ≡ leaf_node page → ⊥) (at : get t.leaves k ≡ Some x) (names : ppn x ≡ ppn_of g) (same : g ≡ f).
    ne (stands.owns.once g k (leaf_node page) (inr (x, at, names)) (subst (λ y. NamesFrame t y (leaf_node page)) (sym same) named)) in
    let no = no_table v t root no_extra stands.tables stands.owns (leaf_node page) here.leaf f here.mapped here.made.names in
    record {
      sound = sound_page p page s _ can.settled can.agrees.sound;
      lays = lays_with l p page _ can.agrees.lays;
      stands = page_stands v w trapframe t t p page (record s { bytes = bytes }) here.leaf f here.region here.low (λ k ne. refl) here.mapped here.made here.in_region has
          (λ k x g ne at names. words_other f v w changes g (apart k x g ne at names)) root no_extra no_extra stands
          (same_tables v w root t (λ k g at. words_other f v w changes g (λ same. no k (at ∙ ap Some same))) stands.tables)
          (same_owns v w t no_extra (words_references f v w changes) (words_sole f v w changes) stands.owns)
          stands.tabled;
      credits = ap (λ (x : View). x.credits) changes.1 ∙ can.agrees.credits;
    }

no_width : (w : ℕ) → IsTrue (is_width w) → (w ≡ 1 → ⊥) → (w ≡ 2 → ⊥) → (w ≡ 4 → ⊥) → (w ≡ 8 → ⊥) → ⊥
no_width w is a b c d =
    let none : is_width w ≡ false = rw (ne_eqb w 1 a, ne_eqb w 2 b, ne_eqb w 4 c, ne_eqb w 8 d) refl in
    cc

-- an aligned address has an aligned offset
pub offset_aligned : (address width : ℕ) → IsTrue (is_width width) → address % width ≡ 0 → address % 4096 % width ≡ 0
offset_aligned address width is aligned = elim (cases_eq width 1) [
  | inl one ↦ rw one (omega arith)
  | inr a ↦ elim (cases_eq width 2) [
    | inl two ↦ rw two (omega (arith, rw two at aligned))
    | inr b ↦ elim (cases_eq width 4) [
      | inl four ↦ rw four (omega (arith, rw four at aligned))
      | inr d ↦ elim (cases_eq width 8) [
        | inl eight ↦ rw eight (omega (arith, rw eight at aligned))
        | inr e ↦ absurd (no_width width is a b d e)
      ]
    ]
  ]
]

-- a change of words reads and takes nothing
pub words_take : (f : ℕ) (v w : View) → ChangesWords f v w → TakesFrames v w 0 []
words_take f v w changes = record {
  tallies = ap (λ (x : View). x.tallies) changes.1 ∙ taken_none v.tallies;
}
