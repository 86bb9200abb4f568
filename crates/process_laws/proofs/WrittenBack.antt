-- Lemmas about write-back of a mapping's pages: bytes written over a file's keep its length and the bytes before them, and
-- are there afterwards, up to its length; and a page that later maps the place of a page that was written back begins with
-- that page's bytes.
use Rattle.std.proofs.Common.{◌≡◌, ℕ, zero, suc, Bool, true, false, cond, ◌&&◌, ◌+◌, ◌-◌, ◌*◌, ◌<◌, ◌≤◌, inl, inr, refl, ap, sym, subst, ◌∙◌, arith, List, [], ◌∷◌, ◌++◌, Option, None, Some, length, take, drop}
use Rattle.std.specs.Prelude.{T, fold, nat_le, nat_lt, slice_get, slice_set}
use Rattle.std.specs.Ordering.{nat_cmp}
use Rattle.std.specs.Cmp.{unsigned_tied}
use Rattle.std.specs.FinMap.Entries.{below_all, find, is_sorted}
use Rattle.std.proofs.lemmas.Bool.{and_from, cases_eq, eq-eqb, le-leb, lt-ltb, ne_eqb}
use Rattle.std.proofs.lemmas.List.{length-append, length-take, length-drop, get_or_append_left, get_or-append_right, get_or-take, get_or-drop}
use Rattle.std.proofs.lemmas.Option.{same_Some}
use Rattle.process_model.specs.Bytes.{padded, write_bytes}
use Rattle.process_model.specs.Files.{File, bytes_of, with_file_at, with_page_written, written_over}
use Rattle.process_model.specs.Mappings.{is_written_back, page_written, with_written, written_back}
use Rattle.process_model.specs.PageMap.{get}
use Rattle.process_model.specs.Process.{Page, Process, regions}
use Rattle.process_model.specs.Regions.{Region, Source, file, image, region_at, zeros}
use Rattle.process_model.specs.Residence.{initial_page, region_page, source_page}
use Rattle.process_laws.specs.FilePlaces.{file_bytes, file_length, file_place, place_in}
use Rattle.process_laws.specs.Latest.{byte_at}
use Rattle.process_laws.proofs.PageCopies.{first, lt_of, second}

-- bytes written over others, up to their length

module _ (bs page : List ℕ) (o : ℕ) where
  pub length_stays : length (written_over bs o page) ≡ length bs
  length_stays =
      let all = length-take (length bs) (write_bytes bs o page) in
      let parts = length-append (take o bs ++ page) (drop (o + length page) bs) in
      let most = length-append (take o bs) page in
      let front = length-take o bs in
      let back = length-drop (o + length page) bs in
      omega (arith, all, parts, most, front, back)

  -- below them nothing changes
  pub below_stays : (b : ℕ) → b < o → b < length bs → byte_at (written_over bs o page) b ≡ byte_at bs b
  below_stays b low less =
      let front = length-take o bs in
      let most = length-append (take o bs) page in
      get_or-take (length bs) (write_bytes bs o page) b 0 less
      ∙ get_or_append_left (take o bs ++ page) (drop (o + length page) bs) 0 b (omega (arith, front, most, low, less))
      ∙ get_or_append_left (take o bs) page 0 b (omega (arith, front, low, less))
      ∙ get_or-take o bs b 0 low

  -- and they are there
  pub over_is : (i : ℕ) → i < length page → o + i < length bs → byte_at (written_over bs o page) (o + i) ≡ byte_at page i
  over_is i inside less =
      let front = length-take o bs in
      let most = length-append (take o bs) page in
      let back : o + i - o ≡ i = omega arith in
      get_or-take (length bs) (write_bytes bs o page) (o + i) 0 less
      ∙ get_or_append_left (take o bs ++ page) (drop (o + length page) bs) 0 (o + i) (omega (arith, front, most, inside, less))
      ∙ get_or-append_right (take o bs) page o (o + i) 0 (omega (arith, front, less)) (omega arith)
      ∙ ap (byte_at page) back

-- one file

set_there : {A : Type 0} (xs : List A) (i : ℕ) (x y : A) → slice_get xs i ≡ Some x → slice_get (slice_set xs i y) i ≡ Some y
set_there [] i x y e = absurd (cc)
set_there (z ∷ xs) zero x y e = refl
set_there (z ∷ xs) (suc i) x y e = set_there xs i x y e

pub page_goes : (files : List File) (n o : ℕ) (page : List ℕ) → file_bytes (with_page_written files n o page) n ≡ written_over (file_bytes files n) o page
page_goes files n o page = go (slice_get files n) refl where
  go : (x : Option File) → slice_get files n ≡ x → bytes_of (slice_get (with_file_at files n x o page) n) ≡ written_over (bytes_of x) o page
  go None e = ap bytes_of e
  go (Some f) e = ap bytes_of (set_there files n f (record f { bytes = written_over f.bytes o page }) e)

-- pages of a region whose bytes are of a file

module _ (m : Region) (from end n offset : ℕ) (of_file : m.source ≡ file n offset) where
  abbrev is_due : ℕ × Page → Bool
  is_due e = nat_le from e.0 && nat_lt e.0 end && is_written_back m e.1

  abbrev place : ℕ → ℕ
  place page = offset + 4096 * (page - m.first)

  abbrev over : List ℕ → ℕ × Page → List ℕ
  over bs e = cond (is_due e) (written_over bs (place e.0) (e.1).bytes) bs

  one_goes : (files : List File) (e : ℕ × Page) → file_bytes (with_written m from end files e) n ≡ over (file_bytes files n) e
  one_goes files e = elim (is_due e) as (λ b. file_bytes (cond b (page_written m.source files (4096 * (e.0 - m.first)) (e.1).bytes) files) n ≡ cond b (written_over (file_bytes files n) (place e.0) (e.1).bytes) (file_bytes files n)) [
    | true ↦ ap (λ s. file_bytes (page_written s files (4096 * (e.0 - m.first)) (e.1).bytes) n) of_file ∙ page_goes files n (place e.0) (e.1).bytes
    | false ↦ refl
  ]

  all_go : (es : List (ℕ × Page)) (files : List File) → file_bytes (fold (with_written m from end) files es) n ≡ fold over (file_bytes files n) es
  all_go [] files = refl
  all_go (e ∷ es) files = all_go es (with_written m from end files e) ∙ ap (λ bs. fold over bs es) (one_goes files e)

  over_long : (bs : List ℕ) (e : ℕ × Page) → length (over bs e) ≡ length bs
  over_long bs e = elim (is_due e) as (λ b. length (cond b (written_over bs (place e.0) (e.1).bytes) bs) ≡ length bs) [ true ↦ length_stays bs (e.1).bytes (place e.0) | false ↦ refl ]

  module _ (page b : ℕ) (starts : m.first ≤ from) (later : from ≤ page) (below : b < place page + 4096) where
    -- a page behind it leaves its bytes
    one_behind : (bs : List ℕ) (e : ℕ × Page) → page < e.0 → b < length bs → byte_at (over bs e) b ≡ byte_at bs b
    one_behind bs e up less =
        elim (is_due e) as (λ c. byte_at (cond c (written_over bs (place e.0) (e.1).bytes) bs) b ≡ byte_at bs b) [
          | true ↦ below_stays bs (e.1).bytes (place e.0) b (omega (arith, up, starts, later, below)) less
          | false ↦ refl
        ]

    all_behind : (es : List (ℕ × Page)) (bs : List ℕ) → T (below_all nat_cmp page es) → b < length bs → byte_at (fold over bs es) b ≡ byte_at bs b
    all_behind [] bs up less = refl
    all_behind (e ∷ es) bs up less =
        let long = over_long bs e in
        all_behind es (over bs e) (second _ _ up) (omega (arith, long, less)) ∙ one_behind bs e (lt_of page e.0 (first _ _ up)) less

  module _ (page i : ℕ) (s : Page) (starts : m.first ≤ from) (later : from ≤ page) (before : page < end) (due : is_written_back m s ≡ true) (few : i < 4096) (inside : i < length s.bytes) where
    is_there : is_due (page, s) ≡ true
    is_there = and_from (nat_le from page && nat_lt page end) (is_written_back m s) (and_from (nat_le from page) (nat_lt page end) (le-leb from page later) (lt-ltb page end before)) due

    -- the page is found, and then no page writes there
    found_goes : (es : List (ℕ × Page)) (bs : List ℕ) → T (is_sorted nat_cmp es) → find nat_cmp page es ≡ Some s → place page + i < length bs → byte_at (fold over bs es) (place page + i) ≡ byte_at s.bytes i
    found_goes [] bs rising e less = absurd (cc)
    found_goes (x ∷ es) bs rising e less =
        let long = over_long bs x in
        elim (cases_eq page x.0) [
          | inl same ↦
              let is : x.1 ≡ s = same_Some x.1 s (rw (unsigned_tied page x.0, eq-eqb page x.0 same) at e) in
              let here : over bs x ≡ written_over bs (place page) s.bytes = ap (over bs) (pair_is x page s (sym same) is) ∙ ap (λ c. cond c (written_over bs (place page) s.bytes) bs) is_there in
              all_behind page (place page + i) starts later (omega (arith, few)) es (over bs x) (subst (λ k. T (below_all nat_cmp k es)) (sym same) (first _ _ rising)) (omega (arith, long, less))
              ∙ ap (λ ys. byte_at ys (place page + i)) here ∙ over_is bs s.bytes (place page) i inside less
          | inr apart ↦ found_goes es (over bs x) (second _ _ rising) (rw (unsigned_tied page x.0, ne_eqb page x.0 apart) at e) (omega (arith, long, less))
        ] where
          pair_is : (x : ℕ × Page) (k : ℕ) (v : Page) → x.0 ≡ k → x.1 ≡ v → x ≡ (k, v)
          pair_is x k v one two = λ j. (one j, two j)

-- what a later page begins with

padded_has : (bs : List ℕ) (at i : ℕ) → i < 4096 → at + i < length bs → byte_at (padded 4096 (drop at bs)) i ≡ byte_at bs (at + i)
padded_has bs at i few less =
    let left = length-drop at bs in
    let front = length-take 4096 (drop at bs) in
    get_or_append_left (take 4096 (drop at bs)) _ 0 i (omega (arith, left, front, few, less)) ∙ get_or-take 4096 (drop at bs) i 0 few ∙ get_or-drop at bs i 0

source_has : (files : List File) (s : Source) (at n place i : ℕ) → place_in s at ≡ Some (n, place) → i < 4096 → place + i < file_length files n → byte_at (source_page files s at) i ≡ byte_at (file_bytes files n) (place + i)
source_has files zeros at n place i e few less = absurd (cc)
source_has files image at n place i e few less = absurd (cc)
source_has files (file k offset) at n place i e few less =
    let pair : (k, offset + at) ≡ (n, place) = same_Some (k, offset + at) (n, place) e in
    let is : k ≡ n = ap (λ (x : ℕ × ℕ). x.0) pair in
    let there : offset + at ≡ place = ap (λ (x : ℕ × ℕ). x.1) pair in
    ap (λ j. byte_at (padded 4096 (drop (offset + at) (file_bytes files j))) i) is ∙ ap (λ o. byte_at (padded 4096 (drop o (file_bytes files n))) i) there ∙ padded_has (file_bytes files n) place i few less

-- a region with a place in a file is of that file
source_is : (m : Region) (page n at : ℕ) → file_place m page ≡ Some (n, at) → (offset : ℕ) × (m.source ≡ file n offset) × (offset + 4096 * (page - m.first) ≡ at)
source_is m page n at e = go m.source e where
  go : (s : Source) → place_in s (4096 * (page - m.first)) ≡ Some (n, at) → (offset : ℕ) × (s ≡ file n offset) × (offset + 4096 * (page - m.first) ≡ at)
  go zeros e = absurd (cc)
  go image e = absurd (cc)
  go (file k offset) e =
      let pair = same_Some (k, offset + 4096 * (page - m.first)) (n, at) e in
      (offset, ap (λ j. file j offset) (ap (λ (x : ℕ × ℕ). x.0) pair), ap (λ (x : ℕ × ℕ). x.1) pair)

pub later_reads : (files : List File) (p q : Process) (m r : Region) (from end page later n at i : ℕ) (s : Page) → m.first ≤ from → from ≤ page → page < end
    → get p.settled page ≡ Some s → is_written_back m s ≡ true → file_place m page ≡ Some (n, at) → region_at (regions q) later ≡ Some r → file_place r later ≡ Some (n, at)
    → i < 4096 → i < length s.bytes → at + i < file_length files n → byte_at (initial_page (written_back files p m from end) q later) i ≡ byte_at s.bytes i
later_reads files p q m r from end page later n at i s starts inside before there due place region again few some less =
    let of_file = source_is m page n at place in
    let goes : file_bytes (written_back files p m from end) n ≡ fold (over m from end n of_file.0 of_file.1) (file_bytes files n) p.settled.entries = all_go m from end n of_file.0 of_file.1 p.settled.entries files in
    let short : of_file.0 + 4096 * (page - m.first) + i < length (file_bytes files n) = let is = of_file.2 in omega (arith, is, less) in
    let is_there = found_goes m from end n of_file.0 of_file.1 page i s starts inside before due few some p.settled.entries (file_bytes files n) p.settled.sorted there short in
    let long : length (file_bytes (written_back files p m from end) n) ≡ length (file_bytes files n) = ap length goes ∙ kept p.settled.entries (file_bytes files n) of_file in
    ap (λ o. byte_at (region_page (written_back files p m from end) o later) i) region
    ∙ source_has (written_back files p m from end) r.source (4096 * (later - r.first)) n at i again few (omega (arith, long, less))
    ∙ ap (λ bs. byte_at bs (at + i)) goes
    ∙ ap (λ k. byte_at (fold (over m from end n of_file.0 of_file.1) (file_bytes files n) p.settled.entries) (k + i)) (sym of_file.2)
    ∙ is_there
  where
    kept : (es : List (ℕ × Page)) (bs : List ℕ) (of_file : (offset : ℕ) × (m.source ≡ file n offset) × (offset + 4096 * (page - m.first) ≡ at)) → length (fold (over m from end n of_file.0 of_file.1) bs es) ≡ length bs
    kept [] bs of_file = refl
    kept (e ∷ es) bs of_file = kept es (over m from end n of_file.0 of_file.1 bs e) of_file ∙ over_long m from end n of_file.0 of_file.1 bs e
