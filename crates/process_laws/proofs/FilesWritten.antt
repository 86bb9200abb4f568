-- Lemmas about write-back, of a run of pages of a mapping and of all mappings: each byte of a file stays or becomes one that
-- the process has at that place, on a page with the dirty mark (D) of a writable shared mapping; no file changes its
-- length, or whether it may be written (`Written`). Of pages that map one place the last is written last (`Above`).
use Rattle.std.proofs.Common.{◌≡◌, ◌⊎◌, ℕ, zero, suc, Bool, true, false, cond, ◌&&◌, ◌+◌, ◌-◌, ◌*◌, ◌%◌, ◌<◌, ◌≤◌, inl, inr, refl, sym, ap, subst, ◌∙◌, arith, List, [], ◌∷◌, ◌++◌, Option, None, Some, length, take, drop}
use Rattle.std.specs.Prelude.{T, fold, nat_le, nat_lt, slice_get, slice_set}
use Rattle.std.specs.Ordering.{nat_cmp}
use Rattle.std.specs.Cmp.{unsigned_tied}
use Rattle.std.specs.FinMap.Entries.{below_all, find, is_sorted}
use Rattle.std.proofs.lemmas.Bool.{and_parts, cases_eq, cases_lt, eq-eqb, le-leb, leb-true, lt-ltb, ltb-true, ne_eqb}
use Rattle.std.proofs.lemmas.Bool.Decides.{nat_tests}
use Rattle.std.proofs.lemmas.List.{length-append, length-take, get_or-append_right, get_or-drop, get_or-take}
use Rattle.std.proofs.lemmas.Option.{same_Some}
use Rattle.process_laws.proofs.Givens.{past_heap}
use Rattle.process_laws.proofs.Grants.{Found, here, skipped}
use Rattle.process_laws.proofs.PageBytes.{AllSized, bytes_on}
use Rattle.process_laws.proofs.PageCopies.{first, found_above, second}
use Rattle.process_laws.proofs.Untouched.{get_set_other}
use Rattle.process_laws.proofs.WrittenBack.{below_stays, length_stays, over_is, page_goes}
use Rattle.process_laws.specs.FilePlaces.{file_bytes}
use Rattle.process_laws.specs.Latest.{byte_at, page_byte}
use Rattle.process_laws.specs.Pages.{Grant, grant, grant_in, has_mark, has_dirty_mark, pages_on}
use Rattle.process_laws.specs.Words.{is_page_written_back, IsWritten, Written, WroteBack}
use Rattle.process_model.specs.declared.step.Step.{Step}
use Rattle.process_model.specs.Bytes.{pages_for, write_bytes}
use Rattle.process_model.specs.Files.{bytes_of, File, is_writable, with_file_at, with_page_written, written_over}
use Rattle.process_model.specs.Mappings.{all_written_back, is_written_back, mapping_around, mapping_written_back, page_written, with_written, written_back}
use Rattle.process_model.specs.Order.{EachRegion, HasNoFile, is_file, IsInOrder, Row}
use Rattle.process_model.specs.PageMap.{get}
use Rattle.process_model.specs.Process.{heap_of, Page, Process}
use Rattle.process_model.specs.Regions.{end_of, file, holds_page, image, region_at, is_shared_kind, keeps_stores, Region, RegionKind, guard, heap, private_mapping, segment, shared_mapping, Source, stack, zeros}
use Rattle.sv39_entry.specs.Address.{page_of}
use Rattle.sv39_entry.specs.Schemes.{trapframe_page}

-- behind the bytes that are written over nothing changes
above_stays : (bs page : List ℕ) (o i : ℕ) → o + length page ≤ i → i < length bs → byte_at (written_over bs o page) i ≡ byte_at bs i
above_stays bs page o i past less =
    let front = length-take o bs in
    let most = length-append (take o bs) page in
    let back : o + length page + (i - (o + length page)) ≡ i = omega (arith, past) in
    get_or-take (length bs) (write_bytes bs o page) i 0 less
    ∙ get_or-append_right (take o bs ++ page) (drop (o + length page) bs) (o + length page) i 0 (omega (arith, front, most, past, less)) past
    ∙ get_or-drop (o + length page) bs (i - (o + length page)) 0
    ∙ ap (byte_at bs) back

other_file : (files : List File) (n k o : ℕ) (page : List ℕ) → (n ≡ k → ⊥) → file_bytes (with_page_written files n o page) k ≡ file_bytes files k
other_file files n k o page apart = by (slice_get files n)
  where
    by : (x : Option File) → bytes_of (slice_get (with_file_at files n x o page) k) ≡ bytes_of (slice_get files k)
    by None = refl
    by (Some f) = ap bytes_of (get_set_other files n k (record f { bytes = written_over f.bytes o page }) apart)

-- a file that is written to stays one that may be written
mode_stays : (files : List File) (n k o : ℕ) (page : List ℕ) → is_writable (slice_get (with_page_written files n o page) k) ≡ is_writable (slice_get files k)
mode_stays files n k o page = by (slice_get files n) refl
  where
    set : (fs : List File) (n k : ℕ) (f : File) (bytes : List ℕ) → slice_get fs n ≡ Some f → is_writable (slice_get (slice_set fs n (record f { bytes = bytes })) k) ≡ is_writable (slice_get fs k)
    set [] n k f bytes e = refl
    set (g ∷ gs) zero zero f bytes e = ap (λ (x : File). x.writable) (sym (same_Some g f e))
    set (g ∷ gs) zero (suc k) f bytes e = refl
    set (g ∷ gs) (suc n) zero f bytes e = refl
    set (g ∷ gs) (suc n) (suc k) f bytes e = set gs n k f bytes e

    by : (x : Option File) → slice_get files n ≡ x → is_writable (slice_get (with_file_at files n x o page) k) ≡ is_writable (slice_get files k)
    by None e = refl
    by (Some f) e = set files n k f (written_over f.bytes o page) e

-- and no file comes or goes
set_count : (fs : List File) (n : ℕ) (f : File) → length (slice_set fs n f) ≡ length fs
set_count [] n f = refl
set_count (g ∷ gs) zero f = refl
set_count (g ∷ gs) (suc n) f = ap suc (set_count gs n f)

count_stays : (files : List File) (n o : ℕ) (page : List ℕ) → length (with_page_written files n o page) ≡ length files
count_stays files n o page = by (slice_get files n)
  where
    by : (x : Option File) → length (with_file_at files n x o page) ≡ length files
    by None = refl
    by (Some f) = set_count files n (record f { bytes = written_over f.bytes o page })

shared_kind : (kind : RegionKind) → is_shared_kind kind ≡ true → kind ≡ shared_mapping
shared_kind segment e = absurd cc
shared_kind guard e = absurd cc
shared_kind stack e = absurd cc
shared_kind heap e = absurd cc
shared_kind shared_mapping e = refl
shared_kind private_mapping e = absurd cc

-- the first entry is found, and those after it too
at_first : (e : ℕ × Page) (es : List (ℕ × Page)) → find nat_cmp e.0 (e ∷ es) ≡ Some e.1
at_first e es = rw (unsigned_tied e.0 e.0, eq-eqb e.0 e.0 refl) refl

at_later : (e : ℕ × Page) (es : List (ℕ × Page)) → T (below_all nat_cmp e.0 es) → (k : ℕ) (v : Page) → find nat_cmp k es ≡ Some v → find nat_cmp k (e ∷ es) ≡ Some v
at_later e es low k v there = let above = found_above e.0 k v es low there in rw (unsigned_tied k e.0, ne_eqb k e.0 (λ same. omega (arith, above, same))) there

-- a byte that is written back, from an address at or above `low`
abbrev Above : Step → Process → ℕ → ℕ → ℕ → ℕ → Type 0
Above x p low n i b = (w : WroteBack x p n i b) × (low ≤ w.address)

-- what `Written` says, with bytes that are all from addresses at or above `low`
record Higher (x : Step) (p : Process) (low : ℕ) (files later : List File) : Type 0 where
  count : length later ≡ length files
  mode : (n : ℕ) → is_writable (slice_get later n) ≡ is_writable (slice_get files n)
  long : (n : ℕ) → length (file_bytes later n) ≡ length (file_bytes files n)
  bytes : (n i : ℕ) → i < length (file_bytes files n) → (byte_at (file_bytes later n) i ≡ byte_at (file_bytes files n) i) ⊎ Above x p low n i (byte_at (file_bytes later n) i)

as_written : (x : Step) (p : Process) (low : ℕ) (files later : List File) → Higher x p low files later → Written x p files later
as_written x p low files later f = record {
  count = f.count;
  mode = f.mode;
  long = f.long;
  bytes = λ n i less. elim (f.bytes n i less) [
    | inl same ↦ inl same
    | inr wrote ↦ inr wrote.0
  ];
}

pub none_written : (x : Step) (p : Process) (files : List File) → Written x p files files
none_written x p files = record { count = refl; mode = λ n. refl; long = λ n. refl; bytes = λ n i less. inl refl }

none_higher : (x : Step) (p : Process) (low : ℕ) (files : List File) → Higher x p low files files
none_higher x p low files = record { count = refl; mode = λ n. refl; long = λ n. refl; bytes = λ n i less. inl refl }

higher_on : (x : Step) (p : Process) (low : ℕ) (one two three : List File) → Higher x p low one two → Higher x p low two three → Higher x p low one three
higher_on x p low one two three f g = record {
  count = g.count ∙ f.count;
  mode = λ n. g.mode n ∙ f.mode n;
  long = λ n. g.long n ∙ f.long n;
  bytes = λ n i less. elim (g.bytes n i (let same = f.long n in omega (arith, same, less))) [
    | inl same ↦ elim (f.bytes n i less) [
      | inl was ↦ inl (same ∙ was)
      | inr wrote ↦ inr (subst (Above x p low n i) (sym same) wrote)
    ]
    | inr wrote ↦ inr wrote
  ];
}

module _ (x : Step) (p : Process) (sized : AllSized p.settled) where
  -- one page
  module _ (m : Region) (e : ℕ × Page) (there : get p.settled e.0 ≡ Some e.1) (grants : grant p e.0 ≡ grant_in (Some m) e.0) (due : is_written_back m e.1 ≡ true) (goes : is_page_written_back x e.0 ≡ true) where
    size : length (e.1).bytes ≡ 4096
    size = sized.size e.0 (e.1).bytes (ap bytes_on there)

    wrote : (low n offset i b : ℕ) → low ≤ 4096 * e.0 + i → m.source ≡ file n offset → i < 4096 → byte_at (e.1).bytes i ≡ b → Above x p low n (offset + 4096 * (e.0 - m.first) + i) b
    wrote low n offset i b high source few is =
        let both = and_parts (keeps_stores (Some m)) (e.1).dirty due in
        let keeps = and_parts m.writes (is_shared_kind m.kind) both.0 in
        let page : page_of (4096 * e.0 + i) ≡ e.0 = omega (arith, few) in
        let place : (4096 * e.0 + i) % 4096 ≡ i = omega (arith, few) in (
          record {
            address = 4096 * e.0 + i;
            grant = record { reads = m.reads; writes = m.writes; executes = m.executes; kind = m.kind; source = pages_on m.source (e.0 - m.first) };
            has = ap (grant p) page ∙ grants;
            writes = keeps.0;
            shared = shared_kind m.kind keeps.1;
            offset = offset + 4096 * (e.0 - m.first);
            of_file = ap (λ s. pages_on s (e.0 - m.first)) source;
            place = ap (λ k. offset + 4096 * (e.0 - m.first) + k) place;
            goes = ap (is_page_written_back x) page ∙ goes;
            stored = ap (has_dirty_mark p) page ∙ ap (has_mark (λ x. x.dirty)) there ∙ both.1;
            byte = ap (λ k. page_byte (get p.settled k) ((4096 * e.0 + i) % 4096)) page ∙ ap (λ k. page_byte (get p.settled e.0) k) place ∙ ap (λ o. page_byte o i) there ∙ ap Some is;
          },
          high,
        )

    over_written : (low : ℕ) → low ≤ 4096 * e.0 → (files : List File) (n offset : ℕ) → m.source ≡ file n offset → Higher x p low files (with_page_written files n (offset + 4096 * (e.0 - m.first)) (e.1).bytes)
    over_written low high files n offset source =
        let o = offset + 4096 * (e.0 - m.first) in
        let bs = file_bytes files n in
        let page = (e.1).bytes in
        let goes = page_goes files n o page in
        record {
          count = count_stays files n o page;
          mode = λ k. mode_stays files n k o page;
          long = λ k. elim (cases_eq n k) [
            | inl same ↦ subst (λ j. length (file_bytes (with_page_written files n o page) j) ≡ length (file_bytes files j)) same (ap length goes ∙ length_stays bs page o)
            | inr apart ↦ ap length (other_file files n k o page apart)
          ];
          bytes = λ k i. elim (cases_eq n k) [
            | inl same ↦ subst (λ j. i < length (file_bytes files j) → (byte_at (file_bytes (with_page_written files n o page) j) i ≡ byte_at (file_bytes files j) i) ⊎ Above x p low j i (byte_at (file_bytes (with_page_written files n o page) j) i)) same
                (λ less. here_written files n offset source i less)
            | inr apart ↦ λ less. inl (ap (λ ys. byte_at ys i) (other_file files n k o page apart))
          ];
        }
      where
        here_written : (files : List File) (n offset : ℕ) → m.source ≡ file n offset → (i : ℕ) → i < length (file_bytes files n)
            → (byte_at (file_bytes (with_page_written files n (offset + 4096 * (e.0 - m.first)) (e.1).bytes) n) i ≡ byte_at (file_bytes files n) i)
            ⊎ Above x p low n i (byte_at (file_bytes (with_page_written files n (offset + 4096 * (e.0 - m.first)) (e.1).bytes) n) i)
        here_written files n offset source i less =
            let o = offset + 4096 * (e.0 - m.first) in
            let bs = file_bytes files n in
            let page = (e.1).bytes in
            let now = ap (λ ys. byte_at ys i) (page_goes files n o page) in
            let long = size in
            elim (cases_lt i o) [
              | inl before ↦ inl (now ∙ below_stays bs page o i before less)
              | inr from ↦ elim (cases_lt i (o + length page)) [
                | inl inside ↦
                    let at : o + (i - o) ≡ i = omega (arith, from) in
                    let is : byte_at (file_bytes (with_page_written files n o page) n) i ≡ byte_at page (i - o) = now ∙ ap (byte_at (written_over bs o page)) (sym at) ∙ over_is bs page o (i - o) (omega (arith, from, inside)) (omega (arith, from, less)) in
                    inr (subst (λ k. Above x p low n k (byte_at (file_bytes (with_page_written files n o page) n) i)) at (wrote low n offset (i - o) (byte_at (file_bytes (with_page_written files n o page) n) i) (omega (arith, high)) source (omega (arith, from, inside, long)) (sym is)))
                | inr past ↦ inl (now ∙ above_stays bs page o i past less)
              ]
            ]

    -- what has to be written is there then
    same_source : (n i b : ℕ) (wb : WroteBack x p n i b) → page_of wb.address ≡ e.0 → pages_on m.source (e.0 - m.first) ≡ file n wb.offset
    same_source n i b wb at =
        let both : grant_in (Some m) e.0 ≡ Some wb.grant = sym grants ∙ ap (grant p) (sym at) ∙ wb.has in
        ap (λ (g : Grant). g.source) (same_Some _ _ both) ∙ wb.of_file

    page_wrote : (n i b : ℕ) (wb : WroteBack x p n i b) → page_of wb.address ≡ e.0 → (files : List File) (s : Source) → m.source ≡ s → i < length (file_bytes files n)
        → Above x p wb.address n i (byte_at (file_bytes (page_written s files (4096 * (e.0 - m.first)) (e.1).bytes) n) i)
    page_wrote n i b wb at files zeros is less = absurd (let no = sym (ap (λ s. pages_on s (e.0 - m.first)) is) ∙ same_source n i b wb at in cc)
    page_wrote n i b wb at files image is less = absurd (let no = sym (ap (λ s. pages_on s (e.0 - m.first)) is) ∙ same_source n i b wb at in cc)
    page_wrote n i b wb at files (file k offset) is less =
        let same = sym (ap (λ s. pages_on s (e.0 - m.first)) is) ∙ same_source n i b wb at in
        let number : k ≡ n = same_file k n (offset + 4096 * (e.0 - m.first)) wb.offset same in
        let start : offset + 4096 * (e.0 - m.first) ≡ wb.offset = same_offset k n (offset + 4096 * (e.0 - m.first)) wb.offset same in
        let j = wb.address % 4096 in
        let place : offset + 4096 * (e.0 - m.first) + j ≡ i = ap (λ o. o + j) start ∙ wb.place in
        let few : j < 4096 = omega arith in
        let long = size in
        let bs = file_bytes files k in
        let o = offset + 4096 * (e.0 - m.first) in
        let room : o + j < length bs = let f = ap (λ z. length (file_bytes files z)) number in omega (arith, place, less, f) in
        let now : byte_at (file_bytes (with_page_written files k o (e.1).bytes) k) (o + j) ≡ byte_at (e.1).bytes j = ap (λ ys. byte_at ys (o + j)) (page_goes files k o (e.1).bytes) ∙ over_is bs (e.1).bytes o j (omega (arith, few, long)) room in
        let is_byte : byte_at (file_bytes (with_page_written files k o (e.1).bytes) n) i ≡ byte_at (e.1).bytes j =
        ap (λ z. byte_at (file_bytes (with_page_written files k o (e.1).bytes) z) i) (sym number) ∙ ap (byte_at (file_bytes (with_page_written files k o (e.1).bytes) k)) (sym place) ∙ now in
        subst (λ z. Above x p wb.address z i (byte_at (file_bytes (with_page_written files k o (e.1).bytes) n) i)) number
        (subst (λ z. Above x p wb.address k z (byte_at (file_bytes (with_page_written files k o (e.1).bytes) n) i)) place
        (wrote wb.address k offset j (byte_at (file_bytes (with_page_written files k o (e.1).bytes) n) i) (omega (arith, at)) is few (sym is_byte)))
      where
        same_file : (k n a c : ℕ) → file k a ≡ file n c → k ≡ n
        same_file k n a c e = cc

        same_offset : (k n a c : ℕ) → file k a ≡ file n c → a ≡ c
        same_offset k n a c e = cc

    source_written : (low : ℕ) → low ≤ 4096 * e.0 → (files : List File) (s : Source) → m.source ≡ s → Higher x p low files (page_written s files (4096 * (e.0 - m.first)) (e.1).bytes)
    source_written low high files zeros is = none_higher x p low files
    source_written low high files image is = none_higher x p low files
    source_written low high files (file n offset) is = over_written low high files n offset is

  -- all pages of a run
  module _ (m : Region) (from end : ℕ) (grants : (page : ℕ) → from ≤ page → page < end → grant p page ≡ grant_in (Some m) page) (go : (page : ℕ) → from ≤ page → page < end → is_page_written_back x page ≡ true) where
    one_written : (low : ℕ) (files : List File) (e : ℕ × Page) → ((low ≤ 4096 * e.0) ⊎ (e.0 < from)) → get p.settled e.0 ≡ Some e.1 → Higher x p low files (with_written m from end files e)
    one_written low files e high there = elim (nat_le from e.0 && nat_lt e.0 end && is_written_back m e.1) as (λ b. (nat_le from e.0 && nat_lt e.0 end && is_written_back m e.1) ≡ b
        → Higher x p low files (cond b (page_written m.source files (4096 * (e.0 - m.first)) (e.1).bytes) files)) [
          | true ↦ λ t.
              let outer = and_parts (nat_le from e.0 && nat_lt e.0 end) (is_written_back m e.1) t in
              let inner = and_parts (nat_le from e.0) (nat_lt e.0 end) outer.0 in
              let start = leb-true from e.0 inner.0 in
              let up : low ≤ 4096 * e.0 = elim high [ inl up ↦ up | inr less ↦ absurd (omega (arith, start, less)) ] in
              source_written m e there (grants e.0 start (ltb-true e.0 end inner.1)) outer.1 (go e.0 start (ltb-true e.0 end inner.1)) low up files m.source refl
          | false ↦ λ t. none_higher x p low files
        ] refl

    all_written : (low : ℕ) (es : List (ℕ × Page)) (files : List File) → ((k : ℕ) (v : Page) → find nat_cmp k es ≡ Some v → (low ≤ 4096 * k) ⊎ (k < from)) → T (is_sorted nat_cmp es) → ((k : ℕ) (v : Page) → find nat_cmp k es ≡ Some v → get p.settled k ≡ Some v)
        → Higher x p low files (fold (with_written m from end) files es)
    all_written low [] files high rising sub = none_higher x p low files
    all_written low (e ∷ es) files high rising sub =
        higher_on x p low files (with_written m from end files e) (fold (with_written m from end) (with_written m from end files e) es)
        (one_written low files e (high e.0 e.1 (at_first e es)) (sub e.0 e.1 (at_first e es)))
        (all_written low es (with_written m from end files e) (λ k v there. high k v (at_later e es (first _ _ rising) k v there)) (second _ _ rising) (λ k v there. sub k v (at_later e es (first _ _ rising) k v there)))

    -- what has to be written on a page of the run is there then

    module _ (n i b : ℕ) (wb : WroteBack x p n i b) (inside : (from ≤ page_of wb.address) × (page_of wb.address < end)) where
      abbrev Has : List File → Type 0
      Has files = Above x p wb.address n i (byte_at (file_bytes files n) i)

      abbrev IsLong : List File → Type 0
      IsLong files = i < length (file_bytes files n)

      stays_written : (one two : List File) → Higher x p wb.address one two → IsLong one → Has one → Has two
      stays_written one two f less was = elim (f.bytes n i less) [
        | inl same ↦ subst (Above x p wb.address n i) (sym same) was
        | inr wrote ↦ wrote
      ]

      stays_long : (low : ℕ) (one two : List File) → Higher x p low one two → IsLong one → IsLong two
      stays_long low one two f less = let same = f.long n in omega (arith, same, less)

      here_wrote : (files : List File) (e : ℕ × Page) → get p.settled e.0 ≡ Some e.1 → page_of wb.address ≡ e.0 → IsLong files → Has (with_written m from end files e)
      here_wrote files e there at less =
          let start : from ≤ e.0 = let s = inside.0 in omega (arith, s, at) in
          let stop : e.0 < end = let s = inside.1 in omega (arith, s, at) in
          let given = grants e.0 start stop in
          let both : grant_in (Some m) e.0 ≡ Some wb.grant = sym given ∙ ap (grant p) (sym at) ∙ wb.has in
          let same = same_Some _ _ both in
          let writes : m.writes ≡ true = ap (λ (g : Grant). g.writes) same ∙ wb.writes in
          let shared : is_shared_kind m.kind ≡ true = ap (λ (g : Grant). is_shared_kind g.kind) same ∙ ap is_shared_kind wb.shared in
          let mark : (e.1).dirty ≡ true = sym (ap (has_mark (λ x. x.dirty)) there) ∙ ap (has_dirty_mark p) (sym at) ∙ wb.stored in
          let due : is_written_back m e.1 ≡ true = rw (writes, shared, mark) refl in
          let low : nat_le from e.0 ≡ true = le-leb from e.0 start in
          let high : nat_lt e.0 end ≡ true = lt-ltb e.0 end stop in
          subst (λ t. Has (cond t (page_written m.source files (4096 * (e.0 - m.first)) (e.1).bytes) files)) (sym (all_three _ _ _ low high due))
          (page_wrote m e there given due (go e.0 start stop) n i b wb at files m.source refl less)
        where
          all_three : (a b c : Bool) → a ≡ true → b ≡ true → c ≡ true → (a && b && c) ≡ true
          all_three true true true e f g = refl
          all_three true true false e f g = absurd cc
          all_three true false c e f g = absurd cc
          all_three false b c e f g = absurd cc

      all_wrote : (es : List (ℕ × Page)) (files : List File) → T (is_sorted nat_cmp es) → ((k : ℕ) (v : Page) → find nat_cmp k es ≡ Some v → get p.settled k ≡ Some v) → (v : Page) → find nat_cmp (page_of wb.address) es ≡ Some v → IsLong files
          → Has (fold (with_written m from end) files es)
      all_wrote [] files rising sub v found less = absurd cc
      all_wrote (e ∷ es) files rising sub v found less =
          let there = sub e.0 e.1 (at_first e es) in
          let long = stays_long 0 files (with_written m from end files e) (one_written 0 files e (inl (omega arith)) there) less in
          let rest : (k : ℕ) (v : Page) → find nat_cmp k es ≡ Some v → get p.settled k ≡ Some v = λ k v there. sub k v (at_later e es (first _ _ rising) k v there) in
          elim (cases_eq (page_of wb.address) e.0) [
            | inl same ↦ stays_written (with_written m from end files e) (fold (with_written m from end) (with_written m from end files e) es)
                (all_written wb.address es (with_written m from end files e) (λ k v there. let above = found_above e.0 k v es (first _ _ rising) there in inl (omega (arith, above, same))) (second _ _ rising) rest) long (here_wrote files e there same less)
            | inr apart ↦ all_wrote es (with_written m from end files e) (second _ _ rising) rest v (sym (later e es apart) ∙ found) long
          ]
        where
          later : (e : ℕ × Page) (es : List (ℕ × Page)) → (page_of wb.address ≡ e.0 → ⊥) → find nat_cmp (page_of wb.address) (e ∷ es) ≡ find nat_cmp (page_of wb.address) es
          later e es apart = rw (unsigned_tied (page_of wb.address) e.0, ne_eqb (page_of wb.address) e.0 apart) refl

      marked_there : (o : Option Page) → has_mark (λ x. x.dirty) o ≡ true → (v : Page) × (o ≡ Some v)
      marked_there None e = absurd cc
      marked_there (Some v) e = (v, refl)

      pub run_wrote : (files : List File) → IsLong files → Has (written_back files p m from end)
      run_wrote files less = let v = marked_there (get p.settled (page_of wb.address)) wb.stored in all_wrote p.settled.entries files p.settled.sorted (λ k v there. there) v.0 v.1 less

    run_higher : (low : ℕ) → low ≤ 4096 * from → (files : List File) → Higher x p low files (written_back files p m from end)
    run_higher low base files = all_written low p.settled.entries files (λ k v there. elim (cases_lt k from) [ inl less ↦ inr less | inr ge ↦ inl (omega (arith, base, ge)) ]) p.settled.sorted (λ k v there. there)

    pub run_written : (files : List File) → Written x p files (written_back files p m from end)
    run_written files = as_written x p 0 files (written_back files p m from end) (run_higher 0 (omega arith) files)

  -- and of all mappings
  module _ (order : IsInOrder p) where
    mappings_higher : ((page : ℕ) → is_page_written_back x page ≡ true) → (least low high : ℕ) → least ≤ 4096 * low → (ms : List Region) (files : List File) → pages_for p.size ≤ low → Row 1 low ms high → ((page : ℕ) → low ≤ page → Found p.mappings page ≡ Found ms page)
        → Higher x p least files (fold (mapping_written_back p) files ms)
    mappings_higher all least low high up [] files base row sub = none_higher x p least files
    mappings_higher all least low high up (m ∷ ms) files base row sub =
        let start = row.0 in
        let some = row.1 in
        higher_on x p least files (mapping_written_back p files m) (fold (mapping_written_back p) (mapping_written_back p files m) ms)
        (run_higher m m.first (end_of m)
        (λ page from to. past_heap p order page p.mappings (omega (arith, base, start, from)) ∙ sub page (omega (arith, start, from)) ∙ here m ms page (grind (arith, nat_tests, from, to))) (λ page from to. all page) least (omega (arith, up, start)) files)
        (mappings_higher all least (end_of m) high (omega (arith, up, start)) ms (mapping_written_back p files m) (omega (arith, base, start, some)) row.2
        (λ page from. sub page (omega (arith, start, some, from)) ∙ skipped m ms page (grind (arith, nat_tests, from))))

    pub end_written : ((page : ℕ) → is_page_written_back x page ≡ true) → (files : List File) → Written x p files (all_written_back files p)
    end_written all files = as_written x p 0 files (all_written_back files p) (mappings_higher all 0 (pages_for p.size) (trapframe_page p.scheme) (omega arith) p.mappings files (omega arith) order.above (λ page from. refl))

    -- a page of a file is a mapping's

    not_of_file : (s : Source) (k n o : ℕ) → is_file s ≡ false → pages_on s k ≡ file n o → ⊥
    not_of_file zeros k n o e f = absurd cc
    not_of_file image k n o e f = absurd cc
    not_of_file (file a b) k n o e f = absurd cc

    past_files : (parts rest : List Region) (page n o : ℕ) (g : Grant) → EachRegion HasNoFile parts → g.source ≡ file n o → Found (parts ++ rest) page ≡ Some g → Found rest page ≡ Some g
    past_files [] rest page n o g none is e = e
    past_files (r ∷ rs) rest page n o g none is e = elim (holds_page r page) as (λ t. grant_in (cond t (Some r) (region_at (rs ++ rest) page)) page ≡ Some g → Found rest page ≡ Some g) [
      | true ↦ λ f. absurd (not_of_file r.source (page - r.first) n o none.0 (ap (λ (z : Grant). z.source) (same_Some _ _ f) ∙ is))
      | false ↦ λ f. past_files rs rest page n o g none.1 is f
    ] e

    of_mapping : (page n o : ℕ) (g : Grant) → g.source ≡ file n o → grant p page ≡ Some g → Found p.mappings page ≡ Some g
    of_mapping page n o g is e = past_files (heap_of p ∷ []) p.mappings page n o g (refl, tt) is (past_files p.parts (heap_of p ∷ p.mappings) page n o g order.sources is e)

    mappings_wrote : ((page : ℕ) → is_page_written_back x page ≡ true) → (n i b : ℕ) (wb : WroteBack x p n i b) (low high : ℕ) (ms : List Region) (files : List File) → pages_for p.size ≤ low → Row 1 low ms high
        → ((page : ℕ) → low ≤ page → Found p.mappings page ≡ Found ms page) → Found ms (page_of wb.address) ≡ Some wb.grant → i < length (file_bytes files n) → Above x p wb.address n i (byte_at (file_bytes (fold (mapping_written_back p) files ms) n) i)
    mappings_wrote all n i b wb low high [] files base row sub found less = absurd cc
    mappings_wrote all n i b wb low high (m ∷ ms) files base row sub found less = by (holds_page m (page_of wb.address)) refl
        (λ e. mappings_wrote all n i b wb (end_of m) high ms (mapping_written_back p files m) (omega (arith, base, start, some)) row.2 others (sym (skipped m ms (page_of wb.address) e) ∙ found) long)
      where
        start : low ≤ m.first
        start = row.0

        some : 1 ≤ m.pages
        some = row.1

        given : (page : ℕ) → m.first ≤ page → page < end_of m → grant p page ≡ grant_in (Some m) page
        given page from to = past_heap p order page p.mappings (omega (arith, base, start, from)) ∙ sub page (omega (arith, start, from)) ∙ here m ms page (grind (arith, nat_tests, from, to))

        one : Written x p files (mapping_written_back p files m)
        one = run_written m m.first (end_of m) given (λ page from to. all page) files

        long : i < length (file_bytes (mapping_written_back p files m) n)
        long = let same = one.long n in omega (arith, same, less)

        others : (page : ℕ) → end_of m ≤ page → Found p.mappings page ≡ Found ms page
        others page from = sub page (omega (arith, start, some, from)) ∙ skipped m ms page (grind (arith, nat_tests, from))

        rest : page_of wb.address < end_of m → Higher x p wb.address (mapping_written_back p files m) (fold (mapping_written_back p) (mapping_written_back p files m) ms)
        rest below = mappings_higher all wb.address (end_of m) high (omega (arith, below)) ms (mapping_written_back p files m) (omega (arith, base, start, some)) row.2 others

        between : holds_page m (page_of wb.address) ≡ true → (m.first ≤ page_of wb.address) × (page_of wb.address < end_of m)
        between e = let t = and_parts (nat_le m.first (page_of wb.address)) (nat_lt (page_of wb.address) (end_of m)) e in (leb-true m.first (page_of wb.address) t.0, ltb-true (page_of wb.address) (end_of m) t.1)

        by : (t : Bool) → holds_page m (page_of wb.address) ≡ t → (holds_page m (page_of wb.address) ≡ false → Above x p wb.address n i (byte_at (file_bytes (fold (mapping_written_back p) (mapping_written_back p files m) ms) n) i)) → Above x p wb.address n i (byte_at (file_bytes (fold (mapping_written_back p) (mapping_written_back p files m) ms) n) i)
        by true e next =
            let inside = between e in
            stays_written m m.first (end_of m) given (λ page from to. all page) n i b wb inside (mapping_written_back p files m) (fold (mapping_written_back p) (mapping_written_back p files m) ms) (rest inside.1) long
            (run_wrote m m.first (end_of m) given (λ page from to. all page) n i b wb inside files less)
        by false e next = next e

    pub end_wrote : ((page : ℕ) → is_page_written_back x page ≡ true) → (files : List File) → IsWritten x p files (all_written_back files p)
    end_wrote all files = record { goes = λ n i b less wb. mappings_wrote all n i b wb (pages_for p.size) (trapframe_page p.scheme) p.mappings files (omega arith) order.above (λ page from. refl) (of_mapping (page_of wb.address) n wb.offset wb.grant wb.of_file wb.has) less }

    around_found : (low high first_page end page : ℕ) (ms : List Region) (m : Region) → first_page ≤ page → page < end → Row 1 low ms high → mapping_around ms first_page end ≡ Some m → (low ≤ page) × (Found ms page ≡ grant_in (Some m) page)
    around_found low high first_page end page [] m from to row e = absurd cc
    around_found low high first_page end page (x ∷ ms) m from to row e =
        elim (nat_le x.first first_page && nat_le end (end_of x)) as (λ t. (nat_le x.first first_page && nat_le end (end_of x)) ≡ t → cond t (Some x) (mapping_around ms first_page end) ≡ Some m
        → (low ≤ page) × (Found (x ∷ ms) page ≡ grant_in (Some m) page)) [
          | true ↦ λ fits is.
              let parts = and_parts (nat_le x.first first_page) (nat_le end (end_of x)) fits in
              let begin = leb-true x.first first_page parts.0 in
              let stop = leb-true end (end_of x) parts.1 in
              let start = row.0 in
              (omega (arith, start, begin, from), here x ms page (grind (arith, nat_tests, begin, stop, from, to)) ∙ ap (λ (r : Region). grant_in (Some r) page) (same_Some x m is))
          | false ↦ λ fits is.
              let rest = around_found (end_of x) high first_page end page ms m from to row.2 is in
              let start = row.0 in
              let past = rest.0 in
              (omega (arith, start, past), skipped x ms page (grind (arith, nat_tests, past)) ∙ rest.1)
        ] refl e

    pub unmap_written : (m : Region) (from end : ℕ) → ((page : ℕ) → from ≤ page → page < end → is_page_written_back x page ≡ true) → (files : List File) → mapping_around p.mappings from end ≡ Some m → Written x p files (written_back files p m from end)
    unmap_written m from end go files around = run_written m from end (λ page start stop.
        let k = around_found (pages_for p.size) (trapframe_page p.scheme) from end page p.mappings m start stop order.above around in
        past_heap p order page p.mappings k.0 ∙ k.1) go files

    pub unmap_wrote : (m : Region) (from end : ℕ) → ((page : ℕ) → from ≤ page → page < end → is_page_written_back x page ≡ true) → ((page : ℕ) → is_page_written_back x page ≡ true → (from ≤ page) × (page < end)) → (files : List File)
        → mapping_around p.mappings from end ≡ Some m → IsWritten x p files (written_back files p m from end)
    unmap_wrote m from end go only files around = record {
      goes = λ n i b less wb. run_wrote m from end (λ page start stop.
          let k = around_found (pages_for p.size) (trapframe_page p.scheme) from end page p.mappings m start stop order.above around in
          past_heap p order page p.mappings k.0 ∙ k.1) go n i b wb (only (page_of wb.address) wb.goes) files less;
    }
