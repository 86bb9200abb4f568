-- The byte of a settled page at an address (`byte_in`), and `AllSized`, each page has 4,096 bytes. Lemmas: what a fork, a
-- store, a page made resident, a release of pages and an image's start make of the bytes.
use Rattle.std.proofs.Common.{◌≡◌, ℕ, zero, suc, Bool, true, false, cond, not, ◌&&◌, ◌||◌, ◌==◌, ◌+◌, ◌-◌, ◌%◌, ◌<◌, ◌≤◌, refl, sym, ap, ◌∙◌, arith, inl, inr, List, [], ◌∷◌, ◌++◌, take, drop, length, Option, None, Some}
use Rattle.std.specs.Prelude.{nat_le, nat_lt, replicate, slice_get, flat_map, if◌then◌else◌}
use Rattle.std.specs.Ordering.{nat_cmp, eq_by_cmp}
use Rattle.std.specs.declared.cmp.Ordering.TheVariants.{Equal}
use Rattle.std.specs.Cmp.{nat_cmp_total}
use Rattle.std.specs.FinMap.Entries.{find, find-put, find-where_key}
use Rattle.std.proofs.lemmas.Bool.{cases_eq, cases_lt, cases_Bool, false≢true, false_from_ne_true, eq-eqb, ne_eqb, eqb-true, leb-true, ltb-true, and_parts, le-leb, lt-ltb, and_from}
use Rattle.std.proofs.lemmas.Bool.Decides.{nat_tests}
use Rattle.std.proofs.lemmas.Option.{same_Some}
use Rattle.std.proofs.lemmas.List.{length-append, length-take, length-drop, length-replicate, get_or_append_left, get_or-append_right, get_or-take, get_or-drop, length-take-le}
use Rattle.sv39_entry.specs.Address.{page_of}
use Rattle.sv39_entry.specs.declared.access.Access.{Access}
use Rattle.sv39_entry.specs.declared.scheme.Scheme.{Scheme}
use Rattle.process_model.specs.Bytes.{padded, write_bytes, pages_for}
use Rattle.process_model.specs.PageMap.{PageMap, get, insert, only, each_value, from_list, empty}
use Rattle.process_model.specs.Files.{File, bytes_of}
use Rattle.process_model.specs.Regions.{Region, Source, zeros, image, file, region_at}
use Rattle.process_model.specs.Process.{Process, Page, regions}
use Rattle.process_model.specs.Residence.{source_page, region_page, initial_page, can_complete, with_page, settled_anew, taken_over, taken_over_unless, made_resident_from, made_resident, stored, child_of, child_page, leaves_mark, marked_page, marked, region_on}
use Rattle.process_model.specs.Heap.{without_pages}
use Rattle.process_model.specs.Images.{LoadSegment}
use Rattle.process_model.specs.Images.{end_of_loads}
use Rattle.process_model.specs.ImageProcess.{page_run, load_pages, image_pages, numbered, process_of}
use Rattle.process_laws.specs.Latest.{byte_at, is_among}

-- the byte of a list of pages at an address
abbrev pub byte_in_pages : List (ℕ × List ℕ) → ℕ → Option ℕ
byte_in_pages [] a = None
byte_in_pages (e ∷ es) a = if e.0 == page_of a then Some (byte_at e.1 (a % 4096)) else byte_in_pages es a

-- the bytes of a page that may be settled
abbrev pub bytes_on : Option Page → Option (List ℕ)
bytes_on None = None
bytes_on (Some x) = Some x.bytes

abbrev pub contents : PageMap Page → ℕ → Option (List ℕ)
contents m n = bytes_on (get m n)

-- every page has 4,096 bytes
pub record AllSized (m : PageMap Page) : Type 0 where
  pub size : (n : ℕ) (bs : List ℕ) → contents m n ≡ Some bs → length bs ≡ 4096

abbrev pub byte_from : Option (List ℕ) → ℕ → Option ℕ
byte_from None i = None
byte_from (Some bs) i = Some (byte_at bs i)

-- the byte of a settled page at an address
abbrev pub byte_in : PageMap Page → ℕ → Option ℕ
byte_in m a = byte_from (contents m (page_of a)) (a % 4096)

-- tests

cond_is : {A : Type 0} (b : Bool) (x y z : A) → (b ≡ true → z ≡ x) → (b ≡ false → z ≡ y) → z ≡ cond b x y
cond_is true x y z f g = f refl
cond_is false x y z f g = g refl

same_number : (n k : ℕ) → eq_by_cmp nat_cmp n k ≡ (k == n)
same_number n k = grind (arith, nat_tests)

pub tied_are_same : (n k : ℕ) → nat_cmp n k ≡ Equal → n ≡ k
tied_are_same n k e = grind (arith, nat_tests)

pub among_true : (first n a : ℕ) → is_among first n a ≡ true → (first ≤ a) × (a < first + n)
among_true first n a e = let both = and_parts (nat_le first a) (nat_lt a (first + n)) e in (leb-true first a both.0, ltb-true a (first + n) both.1)

pub is_among-true : (first n a : ℕ) → first ≤ a → a < first + n → is_among first n a ≡ true
is_among-true first n a l h = and_from (nat_le first a) (nat_lt a (first + n)) (le-leb first a l) (lt-ltb a (first + n) h)

-- maps of pages

on_cond : (b : Bool) (x : Page) (o : Option Page) → bytes_on (cond b (Some x) o) ≡ cond b (Some x.bytes) (bytes_on o)
on_cond true x o = refl
on_cond false x o = refl

contents-insert : (m : PageMap Page) (k : ℕ) (x : Page) (n : ℕ) → contents (insert m k x) n ≡ cond (k == n) (Some x.bytes) (contents m n)
contents-insert m k x n = ap bytes_on (find-put nat_cmp nat_cmp_total n k x m.entries) ∙ on_cond (eq_by_cmp nat_cmp n k) x (get m n) ∙ ap (λ b. cond b (Some x.bytes) (contents m n)) (same_number n k)

on_kept : (b : Bool) (o : Option Page) → bytes_on (cond b o None) ≡ cond b (bytes_on o) None
on_kept true o = refl
on_kept false o = refl

contents-only : (f : ℕ → Bool) (m : PageMap Page) (n : ℕ) → contents (only f m) n ≡ cond (f n) (contents m n) None
contents-only f m n = ap bytes_on (find-where_key nat_cmp f n (λ x e. ap f (sym (tied_are_same n x e))) m.entries) ∙ on_kept (f n) (get m n)

on_same : (b : Bool) (x y : Page) (o u : Option Page) → x.bytes ≡ y.bytes → bytes_on o ≡ bytes_on u → bytes_on (cond b (Some x) o) ≡ bytes_on (cond b (Some y) u)
on_same true x y o u e f = ap Some e
on_same false x y o u e f = f

each_entries : (f : ℕ → Page → Page) → ((n : ℕ) (x : Page) → (f n x).bytes ≡ x.bytes) → (es : List (ℕ × Page)) (n : ℕ) → bytes_on (find nat_cmp n (each_value f es)) ≡ bytes_on (find nat_cmp n es)
each_entries f same [] n = refl
each_entries f same (e ∷ es) n = on_same (eq_by_cmp nat_cmp n e.0) _ e.1 _ _ (same e.0 e.1) (each_entries f same es n)

-- a fork leaves the bytes
pub contents-marked : (p : Process) (n : ℕ) → contents (marked p).settled n ≡ contents p.settled n
contents-marked p n = each_entries (marked_page p) (λ k x. refl) p.settled.entries n

pub contents-child : (p : Process) (n : ℕ) → contents (child_of p).settled n ≡ contents p.settled n
contents-child p n = each_entries (child_page p) (λ k x. refl) p.settled.entries n

-- all sized

pub same_sized : (m k : PageMap Page) → ((n : ℕ) → contents k n ≡ contents m n) → AllSized m → AllSized k
same_sized m k same s = record { size = λ n bs e. s.size n bs (sym (same n) ∙ e) }

put_size : (b : Bool) (xs bs : List ℕ) (o : Option (List ℕ)) → length xs ≡ 4096 → (o ≡ Some bs → length bs ≡ 4096) → cond b (Some xs) o ≡ Some bs → length bs ≡ 4096
put_size true xs bs o l f e = ap length (sym (same_Some xs bs e)) ∙ l
put_size false xs bs o l f e = f e

put_sized : (m : PageMap Page) (k : ℕ) (x : Page) → length x.bytes ≡ 4096 → AllSized m → AllSized (insert m k x)
put_sized m k x l s = record { size = λ n bs e. put_size (k == n) x.bytes bs (contents m n) l (s.size n bs) (sym (contents-insert m k x n) ∙ e) }

kept_size : (b : Bool) (bs : List ℕ) (o : Option (List ℕ)) → (o ≡ Some bs → length bs ≡ 4096) → cond b o None ≡ Some bs → length bs ≡ 4096
kept_size true bs o f e = f e
kept_size false bs o f e = cc

only_sized : (f : ℕ → Bool) (m : PageMap Page) → AllSized m → AllSized (only f m)
only_sized f m s = record { size = λ n bs e. kept_size (f n) bs (contents m n) (s.size n bs) (sym (contents-only f m n) ∙ e) }

-- initial pages

length-padded : (n : ℕ) (bs : List ℕ) → length (padded n bs) ≡ n
length-padded n bs = omega (arith, length-append (take n bs) (replicate (n - length (take n bs)) 0), length-replicate {A = ℕ} (n - length (take n bs)) 0, length-take n bs)

source_size : (files : List File) (source : Source) (at : ℕ) → length (source_page files source at) ≡ 4096
source_size files zeros at = length-padded 4096 []
source_size files image at = length-padded 4096 []
source_size files (file n offset) at = length-padded 4096 (drop (offset + at) (bytes_of (slice_get files n)))

region_size : (files : List File) (o : Option Region) (page : ℕ) → length (region_page files o page) ≡ 4096
region_size files None page = length-padded 4096 []
region_size files (Some r) page = source_size files r.source _

initial_size : (files : List File) (p : Process) (page : ℕ) → length (initial_page files p page) ≡ 4096
initial_size files p page = region_size files (region_at (regions p) page) page

-- bytes written over others

length-write_bytes : (bs vs : List ℕ) (o : ℕ) → o + length vs ≤ length bs → length (write_bytes bs o vs) ≡ length bs
length-write_bytes bs vs o h = omega (arith, length-append (take o bs ++ vs) (drop (o + length vs) bs), length-append (take o bs) vs, length-take o bs, length-drop (o + length vs) bs)

-- the byte at an index: of the new bytes where they stand, and else of the old
byte_at-write_bytes : (bs vs : List ℕ) (o i : ℕ) → o + length vs ≤ length bs → byte_at (write_bytes bs o vs) i ≡ cond (is_among o (length vs) i) (byte_at vs (i - o)) (byte_at bs i)
byte_at-write_bytes bs vs o i h =
    let front : length (take o bs) ≡ o = length-take-le o bs (omega arith) in
    let both : length (take o bs ++ vs) ≡ o + length vs = omega (arith, length-append (take o bs) vs) in
    cond_is (is_among o (length vs) i) (byte_at vs (i - o)) (byte_at bs i) (byte_at (write_bytes bs o vs) i)
    (λ e. let r = among_true o (length vs) i e in
    get_or_append_left (take o bs ++ vs) (drop (o + length vs) bs) 0 i (omega (arith, r)) ∙ get_or-append_right (take o bs) vs o i 0 front r.0)
    (λ e. elim (cases_lt i o) [
      | inl l ↦ get_or_append_left (take o bs ++ vs) (drop (o + length vs) bs) 0 i (omega arith) ∙ get_or_append_left (take o bs) vs 0 i (omega arith) ∙ get_or-take o bs i 0 l
      | inr g ↦ elim (cases_lt i (o + length vs)) [
        | inl l ↦ absurd (false≢true (sym e ∙ is_among-true o (length vs) i g l))
        | inr past ↦
            let back : o + length vs + (i - (o + length vs)) ≡ i = omega arith in
            get_or-append_right (take o bs ++ vs) (drop (o + length vs) bs) (o + length vs) i 0 both past ∙ get_or-drop (o + length vs) bs (i - (o + length vs)) 0 ∙ ap (byte_at bs) back
      ]
    ])

-- where bytes stand that do not leave their page

same_page : (first w a : ℕ) → first % 4096 + w ≤ 4096 → is_among first w a ≡ true → page_of a ≡ page_of first
same_page first w a h e = omega (arith, among_true first w a e)

in_page : (first w a : ℕ) → page_of a ≡ page_of first → is_among (first % 4096) w (a % 4096) ≡ is_among first w a
in_page first w a e = elim (cases_Bool (is_among first w a)) [
  | inl t ↦ let r = among_true first w a t in is_among-true (first % 4096) w (a % 4096) (omega arith) (omega arith) ∙ sym t
  | inr f ↦ false_from_ne_true _ (λ t. let r = among_true (first % 4096) w (a % 4096) t in false≢true (sym f ∙ is_among-true first w a (omega arith) (omega arith))) ∙ sym f
]

offset_is : (first w a : ℕ) → page_of a ≡ page_of first → first ≤ a → a % 4096 - first % 4096 ≡ a - first
offset_is first w a e l = omega arith

some_cond : (b : Bool) (x y : ℕ) → Some (cond b x y) ≡ cond b (Some x) (Some y)
some_cond true x y = refl
some_cond false x y = refl

-- bytes that are stored in a settled page
pub byte_in-stored : (m : PageMap Page) (address : ℕ) (x : Page) (vs : List ℕ) → get m (page_of address) ≡ Some x → length x.bytes ≡ 4096 → address % 4096 + length vs ≤ 4096
    → (a : ℕ) → byte_in (insert m (page_of address) (stored x (address % 4096) vs)) a ≡ cond (is_among address (length vs) a) (Some (byte_at vs (a - address))) (byte_in m a)
byte_in-stored m address x vs there l h a =
    let n = page_of address in
    let w = length vs in
    ap (λ o. byte_from o (a % 4096)) (contents-insert m n (stored x (address % 4096) vs) (page_of a))
    ∙ elim (cases_eq (page_of a) n) [
      | inl same ↦
          ap (λ b. byte_from (cond b (Some (stored x (address % 4096) vs).bytes) (contents m (page_of a))) (a % 4096)) (eq-eqb n (page_of a) (sym same))
          ∙ ap Some (byte_at-write_bytes x.bytes vs (address % 4096) (a % 4096) (omega arith))
          ∙ ap (λ b. Some (cond b (byte_at vs (a % 4096 - address % 4096)) (byte_at x.bytes (a % 4096)))) (in_page address w a same)
          ∙ some_cond (is_among address w a) _ _
          ∙ cond_is (is_among address w a) (Some (byte_at vs (a - address))) (byte_in m a) _
          (λ e. ap (λ b. cond b (Some (byte_at vs (a % 4096 - address % 4096))) (Some (byte_at x.bytes (a % 4096)))) e ∙ ap (λ i. Some (byte_at vs i)) (offset_is address w a same (among_true address w a e).0))
          (λ e. ap (λ b. cond b (Some (byte_at vs (a % 4096 - address % 4096))) (Some (byte_at x.bytes (a % 4096)))) e ∙ sym (ap (λ k. byte_from (contents m k) (a % 4096)) same ∙ ap (λ o. byte_from (bytes_on o) (a % 4096)) there))
      | inr other ↦
          ap (λ b. byte_from (cond b (Some (stored x (address % 4096) vs).bytes) (contents m (page_of a))) (a % 4096)) (ne_eqb n (page_of a) (λ e. other (sym e)))
          ∙ ap (λ b. cond b (Some (byte_at vs (a - address))) (byte_in m a)) (sym (false_from_ne_true _ (λ e. other (same_page address w a h e))))
    ]

pub stored_sized : (m : PageMap Page) (n : ℕ) (x : Page) (o : ℕ) (vs : List ℕ) → length x.bytes ≡ 4096 → o + length vs ≤ 4096 → AllSized m → AllSized (insert m n (stored x o vs))
stored_sized m n x o vs l h s = put_sized m n (stored x o vs) (length-write_bytes x.bytes vs o (omega arith) ∙ l) s

-- service

-- the bytes, or the initial ones where there are none
abbrev pub or_start : List File → Process → ℕ → Option ℕ → Option ℕ
or_start files p a (Some b) = Some b
or_start files p a None = Some (byte_at (initial_page files p (page_of a)) (a % 4096))

-- a process with the page settled: nothing else of its bytes and its regions changes
pub record SettlesPage (files : List File) (page : ℕ) (p q : Process) : Type 0 where
  pub same_regions : regions q ≡ regions p
  pub sized : AllSized q.settled
  pub told : (a : ℕ) → byte_in q.settled a ≡ cond (page == page_of a) (or_start files p a (byte_in p.settled a)) (byte_in p.settled a)

-- where the page has bytes
stays : (files : List File) (p q : Process) (page : ℕ) (bs : List ℕ) → contents p.settled page ≡ Some bs → ((n : ℕ) → contents q.settled n ≡ contents p.settled n)
    → (a : ℕ) → byte_in q.settled a ≡ cond (page == page_of a) (or_start files p a (byte_in p.settled a)) (byte_in p.settled a)
stays files p q page bs e same a = cond_is (page == page_of a) (or_start files p a (byte_in p.settled a)) (byte_in p.settled a) (byte_in q.settled a)
    (λ t. let is : contents p.settled (page_of a) ≡ Some bs = ap (contents p.settled) (sym (eqb-true page (page_of a) t)) ∙ e in
    ap (λ o. byte_from o (a % 4096)) (same (page_of a) ∙ is) ∙ sym (ap (λ o. or_start files p a (byte_from o (a % 4096))) is))
    (λ t. ap (λ o. byte_from o (a % 4096)) (same (page_of a)))

pub stays_settled : (files : List File) (p : Process) (page : ℕ) (x : Page) → get p.settled page ≡ Some x → AllSized p.settled → SettlesPage files page p p
stays_settled files p page x e s = record { same_regions = refl; sized = s; told = stays files p p page x.bytes (ap bytes_on e) (λ n. refl) }

settles_anew : (files : List File) (fresh : ℕ) (p : Process) (access : Access) (page : ℕ) → get p.settled page ≡ None → AllSized p.settled → SettlesPage files page p (settled_anew files fresh p access page)
settles_anew files fresh p access page e s = record {
  same_regions = refl;
  sized = put_sized p.settled page (record { bytes = initial_page files p page; copy = fresh; cow = false; dirty = leaves_mark access (region_on p page) }) (initial_size files p page) s;
  told = λ a. ap (λ o. byte_from o (a % 4096)) (contents-insert p.settled page (record { bytes = initial_page files p page; copy = fresh; cow = false; dirty = leaves_mark access (region_on p page) }) (page_of a))
      ∙ cond_is (page == page_of a) (or_start files p a (byte_in p.settled a)) (byte_in p.settled a) (byte_from (cond (page == page_of a) (Some (initial_page files p page)) (contents p.settled (page_of a))) (a % 4096))
      (λ t. let is : page_of a ≡ page = sym (eqb-true page (page_of a) t) in
      ap (λ b. byte_from (cond b (Some (initial_page files p page)) (contents p.settled (page_of a))) (a % 4096)) t
      ∙ ap (λ n. Some (byte_at (initial_page files p n) (a % 4096))) (sym is)
      ∙ sym (ap (λ o. or_start files p a (byte_from (bytes_on o) (a % 4096))) (ap (get p.settled) is ∙ e)))
      (λ t. ap (λ b. byte_from (cond b (Some (initial_page files p page)) (contents p.settled (page_of a))) (a % 4096)) t);
}

-- a page that is put again with the same bytes
pub put_same : (m : PageMap Page) (k : ℕ) (x y : Page) → get m k ≡ Some x → y.bytes ≡ x.bytes → (n : ℕ) → contents (insert m k y) n ≡ contents m n
put_same m k x y there e n = contents-insert m k y n ∙ sym (cond_is (k == n) (Some y.bytes) (contents m n) (contents m n)
    (λ t. ap (contents m) (sym (eqb-true k n t)) ∙ ap bytes_on there ∙ ap Some (sym e))
    (λ t. refl))

unmarks : (files : List File) (fresh : ℕ) (shared : Bool) (p : Process) (page : ℕ) (x : Page) (b : Bool) → get p.settled page ≡ Some x → AllSized p.settled → SettlesPage files page p (taken_over_unless fresh shared p page x b)
unmarks files fresh shared p page x true e s = stays_settled files p page x e s
unmarks files fresh shared p page x false e s =
    let y : Page = taken_over fresh shared (region_on p page) x in
    let same = put_same p.settled page x y e refl in
    record {
      same_regions = refl;
      sized = same_sized p.settled (insert p.settled page y) same s;
      told = stays files p (with_page p page y) page x.bytes (ap bytes_on e) same;
    }

resident_from : (files : List File) (fresh : ℕ) (shared : Bool) (p : Process) (access : Access) (page : ℕ) (o : Option Page) → get p.settled page ≡ o → AllSized p.settled → SettlesPage files page p (made_resident_from files fresh shared p access page o)
resident_from files fresh shared p access page None e s = settles_anew files fresh p access page e s
resident_from files fresh shared p access page (Some x) e s = unmarks files fresh shared p page x (can_complete access (region_on p page) x) e s

pub resident_settles : (files : List File) (fresh : ℕ) (shared : Bool) (p : Process) (access : Access) (page : ℕ) → AllSized p.settled → SettlesPage files page p (made_resident files fresh shared p access page)
resident_settles files fresh shared p access page s = resident_from files fresh shared p access page (get p.settled page) refl s

-- regions that change

kept_byte : (out kept : Bool) (o : Option (List ℕ)) (i : ℕ) → kept ≡ not out → byte_from (cond kept o None) i ≡ cond out None (byte_from o i)
kept_byte true kept o i e = ap (λ b. byte_from (cond b o None) i) e
kept_byte false kept o i e = ap (λ b. byte_from (cond b o None) i) e

outside : (page first end : ℕ) → (nat_lt page first || nat_le end page) ≡ not (nat_le first page && nat_lt page end)
outside page first end = grind (arith, nat_tests)

pub byte_in-without : (p : Process) (first end a : ℕ) → byte_in (without_pages p first end).settled a ≡ cond (nat_le first (page_of a) && nat_lt (page_of a) end) None (byte_in p.settled a)
byte_in-without p first end a =
    ap (λ o. byte_from o (a % 4096)) (contents-only (λ page. nat_lt page first || nat_le end page) p.settled (page_of a))
    ∙ kept_byte (nat_le first (page_of a) && nat_lt (page_of a) end) _ (contents p.settled (page_of a)) (a % 4096) (outside (page_of a) first end)

pub without_sized : (p : Process) (first end : ℕ) → AllSized p.settled → AllSized (without_pages p first end).settled
without_sized p first end s = only_sized (λ page. nat_lt page first || nat_le end page) p.settled s

-- images

abbrev AllLong : List (ℕ × List ℕ) → Type 0
AllLong [] = Unit {0}
AllLong (e ∷ es) = (length e.1 ≡ 4096) × AllLong es

run_long : (n first : ℕ) (bs : List ℕ) → AllLong (page_run first bs n)
run_long zero first bs = tt
run_long (suc n) first bs = (length-padded 4096 bs, run_long n (first + 1) (drop 4096 bs))

append_long : (es fs : List (ℕ × List ℕ)) → AllLong es → AllLong fs → AllLong (es ++ fs)
append_long [] fs g h = h
append_long (e ∷ es) fs g h = (g.0, append_long es fs g.1 h)

loads_long : (ls : List LoadSegment) → AllLong (flat_map load_pages ls)
loads_long [] = tt
loads_long (l ∷ ls) = append_long (load_pages l) (flat_map load_pages ls) (run_long (pages_for l.memory_size) (page_of l.address) l.bytes) (loads_long ls)

image_long : (ls : List LoadSegment) → AllLong (image_pages ls)
image_long ls = append_long (flat_map load_pages ls) (page_run (end_of_loads 0 ls) [] 2) (loads_long ls) (run_long 2 (end_of_loads 0 ls) [])

empty_sized : AllSized (empty Page)
empty_sized = record { size = λ n bs e. cc }

listed_sized : (fresh : ℕ) (es : List (ℕ × List ℕ)) → AllLong es → AllSized (from_list (numbered fresh es))
listed_sized fresh [] h = empty_sized
listed_sized fresh (e ∷ es) h = put_sized (from_list (numbered (fresh + 1) es)) e.0 (record { bytes = e.1; copy = fresh; cow = false; dirty = false }) h.0 (listed_sized (fresh + 1) es h.1)

byte_cond : (b : Bool) (bs : List ℕ) (o : Option (List ℕ)) (i : ℕ) → byte_from (cond b (Some bs) o) i ≡ cond b (Some (byte_at bs i)) (byte_from o i)
byte_cond true bs o i = refl
byte_cond false bs o i = refl

byte_in-listed : (fresh : ℕ) (es : List (ℕ × List ℕ)) (a : ℕ) → byte_in (from_list (numbered fresh es)) a ≡ byte_in_pages es a
byte_in-listed fresh [] a = refl
byte_in-listed fresh (e ∷ es) a =
    ap (λ o. byte_from o (a % 4096)) (contents-insert (from_list (numbered (fresh + 1) es)) e.0 (record { bytes = e.1; copy = fresh; cow = false; dirty = false }) (page_of a))
    ∙ byte_cond (e.0 == page_of a) e.1 (contents (from_list (numbered (fresh + 1) es)) (page_of a)) (a % 4096)
    ∙ ap (cond (e.0 == page_of a) (Some (byte_at e.1 (a % 4096)))) (byte_in-listed (fresh + 1) es a)

pub image_sized : (z : Scheme) (fresh : ℕ) (ls : List LoadSegment) → AllSized (process_of z fresh ls).settled
unfolding process_of
image_sized z fresh ls = listed_sized fresh (image_pages ls) (image_long ls)

pub byte_in-image : (z : Scheme) (fresh : ℕ) (ls : List LoadSegment) (a : ℕ) → byte_in (process_of z fresh ls).settled a ≡ byte_in_pages (image_pages ls) a
unfolding process_of
byte_in-image z fresh ls a = byte_in-listed fresh (image_pages ls) a
