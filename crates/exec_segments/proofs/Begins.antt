-- Lemmas for `parts_of`: the parts that an image makes (its segments, guard and stack) are parts of a process, of the
-- model's process, and need the frames that the model counts (`start_need`); and for its loop: parts so far, and room for
-- the next ones.
use Rattle.std.proofs.Common.{◌≡◌, ℕ, zero, suc, ◌+◌, ◌*◌, ◌/◌, ◌<◌, ◌≤◌, ◌^◌, true, false, length, get_or, take, List, [], ◌∷◌, ◌++◌, map, None, Result, Ok, Err, refl, ap, sym, subst, ◌∙◌, arith}
use Rattle.std.specs.Prelude.{flat_map, IfOk}
use Rattle.std.proofs.lemmas.Grind.{flat_map-append}
use Rattle.std.proofs.Math.Seq.{drop-nil, take-suc}
use Rattle.std.proofs.lemmas.List.{append_assoc, length-append, length-map, length-take-le, map-append, take_all}
use Rattle.process_model.specs.Bytes.{padded, pages_for}
use Rattle.process_model.specs.Frames.{start_need, tables_needed}
use Rattle.process_model.proofs.ImageNeed.{exec_need_is}
use Rattle.process_model.specs.Order.{InRow, is_file, IsPlaced}
use Rattle.process_model.specs.Images.{LoadSegment, end_of_loads, end_page}
use Rattle.process_model.specs.ImageProcess.{guard_at, image_pages, load_pages, numbered, page_run, parts_of, process_of, segment_region, stack_at}
use Rattle.process_model.specs.PageMap.{from_list, numbers}
use Rattle.process_model.specs.Process.{Process}
use Rattle.process_model.specs.Regions.{Region, end_of, makes_leaf}
use Rattle.sv39_entry.specs.Address.{page_of}
use Rattle.sv39_entry.specs.Schemes.{trapframe_page, of_scheme}
use Rattle.sv39_entry.specs.declared.scheme.Scheme.{Scheme}
use Rattle.address_space.specs.Layouts.{last_page}
use Rattle.address_space.specs.Parts.{AreParts, build_need, IsAscending, pages_of, part_pages, process_of_parts, region_in, regions_in}
use Rattle.address_space.specs.declared.part.Part.{Part}
use Rattle.address_space.specs.declared.region.RegionKind.TheVariants as RegionKind
use Rattle.exec_segments.specs.Loads.{AreInOrder, AreLoads, IsLoad, load_of, zeros_region}
use Rattle.exec_segments.specs.declared.load.Load.{Load}
use Rattle.exec_segments.proofs.Judged.{last_behind}
use Rattle.process_model.specs.declared.limits.TheConstants.{GUARD_PAGES, STACK_PAGES}

-- a part is that of a segment
pub record IsPartOf (p : Part) (l : LoadSegment) : Type 0 where
  pub region : region_in p ≡ segment_region l
  pub bytes : p.bytes.now ≡ l.bytes

abbrev pub ArePartsOf : List Part → List LoadSegment → Type 0
ArePartsOf [] [] = Unit {0}
ArePartsOf (p ∷ ps) (l ∷ ls) = IsPartOf p l × ArePartsOf ps ls
ArePartsOf _ _ = ⊥

pub one_part_more : (ps : List Part) (ls : List LoadSegment) (p : Part) (l : LoadSegment) → ArePartsOf ps ls → IsPartOf p l → ArePartsOf (ps ++ p ∷ []) (ls ++ l ∷ [])
one_part_more [] [] p l are is = (is, tt)
one_part_more [] (k ∷ ls) p l are is = elim are [ ]
one_part_more (q ∷ ps) [] p l are is = elim are [ ]
one_part_more (q ∷ ps) (k ∷ ls) p l are is = (are.0, one_part_more ps ls p l are.1 is)

same_length : (ps : List Part) (ls : List LoadSegment) → ArePartsOf ps ls → length ps ≡ length ls
same_length [] [] are = refl
same_length [] (l ∷ ls) are = elim are [ ]
same_length (p ∷ ps) [] are = elim are [ ]
same_length (p ∷ ps) (l ∷ ls) are = ap suc (same_length ps ls are.1)

pages_are : (p : Part) (first n : ℕ) (bytes : List ℕ) → p.region.first ≡ first → p.region.pages ≡ n → p.bytes.now ≡ bytes → part_pages p ≡ page_run first bytes n
pages_are p first n bytes at many is = rw (at, many, is) refl

part_pages_are : (p : Part) (l : LoadSegment) → IsPartOf p l → part_pages p ≡ load_pages l
part_pages_are p l is = pages_are p _ _ _ (ap (λ (r : Region). r.first) is.region) (ap (λ (r : Region). r.pages) is.region) is.bytes

-- the page after a segment's last
end_is : (z : Scheme) (end : ℕ) (p : Part) (l : LoadSegment) → IsPartOf p l → IsLoad z end l → end_of (region_in p) ≡ end_page l
end_is z end p l is load =
    let first : p.region.first ≡ l.address / 4096 = ap (λ (r : Region). r.first) is.region in
    let pages : p.region.pages ≡ pages_for l.memory_size = ap (λ (r : Region). r.pages) is.region in
    let aligned = load.aligned in
    omega (arith, first, pages, aligned)

-- what holds of each part, one after another
abbrev Each : (Part → Type 0) → List Part → Type 0
Each P [] = Unit {0}
Each P (p ∷ ps) = P p × Each P ps

each_all : (P : Part → Type 0) (ps : List Part) → Each P ps → (i : ℕ) (d : Part) → i < length ps → P (get_or ps i d)
each_all P [] each i d low = absurd (omega arith)
each_all P (p ∷ ps) each zero d low = each.0
each_all P (p ∷ ps) each (suc i) d low = each_all P ps each.1 i d (omega arith)

abbrev IsLow : Scheme → Part → Type 0
IsLow z p = p.region.first + p.region.pages ≤ trapframe_page z

abbrev IsLeafy : Part → Type 0
IsLeafy p = makes_leaf (region_in p) ≡ true

abbrev IsWithoutFile : Part → Type 0
IsWithoutFile p = is_file (region_in p).source ≡ false

-- the guard and the stack have room below the trapframe
some_room : (z : Scheme) → GUARD_PAGES + STACK_PAGES ≤ trapframe_page z
some_room z = omega (arith, of_scheme z)

-- below the trapframe there is room for two pages more
ends_low : (z : Scheme) (end : ℕ) (ls : List LoadSegment) → AreInOrder z end ls → end + (GUARD_PAGES + STACK_PAGES) ≤ trapframe_page z
    → end_of_loads end ls + (GUARD_PAGES + STACK_PAGES) ≤ trapframe_page z
ends_low z end [] ordered low = low
ends_low z end (l ∷ ls) ordered low = ends_low z (end_page l) ls ordered.1 (ordered.0).high

module _ (g s : Part) where
  abbrev whole : List Part → List Part
  whole ps = ps ++ g ∷ s ∷ []

  regions_are : (ps : List Part) (ls : List LoadSegment) → ArePartsOf ps ls → map region_in ps ≡ map segment_region ls
  regions_are [] [] are = refl
  regions_are [] (l ∷ ls) are = elim are [ ]
  regions_are (p ∷ ps) [] are = elim are [ ]
  regions_are (p ∷ ps) (l ∷ ls) are = rw ((are.0).region) (ap (λ rs. segment_region l ∷ rs) (regions_are ps ls are.1))

  all_pages_are : (ps : List Part) (ls : List LoadSegment) → ArePartsOf ps ls → flat_map part_pages ps ≡ flat_map load_pages ls
  all_pages_are [] [] are = refl
  all_pages_are [] (l ∷ ls) are = elim are [ ]
  all_pages_are (p ∷ ps) [] are = elim are [ ]
  all_pages_are (p ∷ ps) (l ∷ ls) are = rw (part_pages_are p l are.0) (ap (λ es. load_pages l ++ es) (all_pages_are ps ls are.1))

  last_is : (end : ℕ) (ps : List Part) → last_page end (regions_in (whole ps)) ≡ end_of (region_in s)
  last_is end [] = refl
  last_is end (p ∷ ps) = last_is (end_of (region_in p)) ps

  module _ (z : Scheme) (rest_low : (IsLow z g × IsLow z s)) (rest_leafy : (IsLeafy g × IsLeafy s)) where
    low : (end : ℕ) (ps : List Part) (ls : List LoadSegment) → ArePartsOf ps ls → AreInOrder z end ls → Each (IsLow z) (whole ps)
    low end [] [] are ordered = (rest_low.0, (rest_low.1, tt))
    low end [] (l ∷ ls) are ordered = elim are [ ]
    low end (p ∷ ps) [] are ordered = elim are [ ]
    low end (p ∷ ps) (l ∷ ls) are ordered =
        ((let last = end_is z end p l are.0 ordered.0 in let high = (ordered.0).high in omega (arith, last, high)), low (end_page l) ps ls are.1 ordered.1)

    leafy : (ps : List Part) (ls : List LoadSegment) → ArePartsOf ps ls → Each IsLeafy (whole ps)
    leafy [] [] are = (rest_leafy.0, (rest_leafy.1, tt))
    leafy [] (l ∷ ls) are = elim are [ ]
    leafy (p ∷ ps) [] are = elim are [ ]
    leafy (p ∷ ps) (l ∷ ls) are = (ap makes_leaf (are.0).region, leafy ps ls are.1)

  without_file : (IsWithoutFile g × IsWithoutFile s) → (ps : List Part) (ls : List LoadSegment) → ArePartsOf ps ls → Each IsWithoutFile (whole ps)
  without_file rest [] [] are = (rest.0, (rest.1, tt))
  without_file rest [] (l ∷ ls) are = elim are [ ]
  without_file rest (p ∷ ps) [] are = elim are [ ]
  without_file rest (p ∷ ps) (l ∷ ls) are = (ap (λ (r : Region). is_file r.source) (are.0).region, without_file rest ps ls are.1)

  ascending : (z : Scheme) (end : ℕ) (ps : List Part) (ls : List LoadSegment) → ArePartsOf ps ls → AreInOrder z end ls → end_of_loads end ls ≤ g.region.first → end_of (region_in g) ≤ s.region.first → IsAscending end (whole ps)
  ascending z end [] [] are ordered first second = (first, (second, tt))
  ascending z end [] (l ∷ ls) are ordered first second = elim are [ ]
  ascending z end (p ∷ ps) [] are ordered first second = elim are [ ]
  ascending z end (p ∷ ps) (l ∷ ls) are ordered first second =
      let last = end_is z end p l are.0 ordered.0 in
      let at : p.region.first ≡ page_of l.address = ap (λ (r : Region). r.first) (are.0).region in
      let behind = (ordered.0).in_order in
      (omega (arith, at, behind), subst (λ n. IsAscending n (whole ps)) (sym last) (ascending z (end_page l) ps ls are.1 ordered.1 first second))

-- the process of a scheme, regions, pages and where its heap begins
abbrev made : Scheme → ℕ → List Region → List (ℕ × List ℕ) → ℕ → Process
made z fresh rs es end = record {
  scheme = z;
  parts = rs;
  mappings = [];
  heap_base = 4096 * end;
  size = 4096 * end;
  settled = from_list (numbered fresh es);
  tabled = numbers (map (λ e. e.0) es);
  pending = None;
}

abbrev need_of : Scheme → List (ℕ × List ℕ) → ℕ
need_of z es = 1 + length es + tables_needed z (map (λ e. e.0) es)

in_row : (z : Scheme) (end : ℕ) (ls : List LoadSegment) → AreInOrder z end ls → InRow end ls
in_row z end [] ordered = tt
in_row z end (l ∷ ls) ordered =
    let some = (ordered.0).some in
    let aligned = (ordered.0).aligned in
    (record { above = (ordered.0).in_order; some = omega (arith, some); end = omega (arith, aligned) }, in_row z (end_page l) ls ordered.1)

placed : (z : Scheme) (ls : List LoadSegment) → AreLoads z ls → IsPlaced z ls
placed z ls loads = record { row = in_row z 0 ls loads.in_order; below = ends_low z 0 ls loads.in_order (some_room z) }

-- the parts of an image: those of its segments, the guard and the stack
module _ (z : Scheme) (ps : List Part) (ls : List LoadSegment) (g s : Part) (are : ArePartsOf ps ls) (loads : AreLoads z ls)
    (guard_is : region_in g ≡ guard_at (end_of_loads 0 ls)) (stack_is : region_in s ≡ stack_at (end_of_loads 0 ls + GUARD_PAGES)) (no_bytes : g.bytes.now ≡ []) (none : s.bytes.now ≡ []) where
  all_regions : regions_in (whole g s ps) ≡ parts_of ls
  all_regions = map-append region_in ps (g ∷ s ∷ []) ∙ ap (λ rs. rs ++ region_in g ∷ region_in s ∷ []) (regions_are g s ps ls are)
      ∙ ap (λ r. map segment_region ls ++ r ∷ region_in s ∷ []) guard_is ∙ ap (λ r. map segment_region ls ++ guard_at (end_of_loads 0 ls) ∷ r ∷ []) stack_is

  last_pages : flat_map part_pages (g ∷ s ∷ []) ≡ page_run (end_of_loads 0 ls) [] (GUARD_PAGES + STACK_PAGES)
  last_pages =
      let guard_has = pages_are g (end_of_loads 0 ls) GUARD_PAGES [] (ap (λ (r : Region). r.first) guard_is) (ap (λ (r : Region). r.pages) guard_is) no_bytes in
      let stack_has = pages_are s (end_of_loads 0 ls + GUARD_PAGES) STACK_PAGES [] (ap (λ (r : Region). r.first) stack_is) (ap (λ (r : Region). r.pages) stack_is) none in
      rw (guard_has, stack_has) (ap (λ bs. (end_of_loads 0 ls, padded 4096 []) ∷ page_run (end_of_loads 0 ls + 1) bs 1) (sym (drop-nil 4096)))

  all_pages : pages_of (whole g s ps) ≡ image_pages ls
  all_pages = flat_map-append part_pages ps (g ∷ s ∷ []) ∙ ap (λ es. es ++ flat_map part_pages (g ∷ s ∷ [])) (all_pages_are g s ps ls are)
      ∙ ap (λ es. flat_map load_pages ls ++ es) last_pages

  last_page_is : last_page 0 (regions_in (whole g s ps)) ≡ end_of_loads 0 ls + (GUARD_PAGES + STACK_PAGES)
  last_page_is = last_is g s 0 ps ∙ ap end_of stack_is ∙ omega arith

  pub begins : (fresh : ℕ) → process_of_parts z fresh (whole g s ps) ≡ process_of z fresh ls
  unfolding process_of
  begins fresh = ap (λ rs. made z fresh rs (pages_of (whole g s ps)) (last_page 0 (regions_in (whole g s ps)))) all_regions
      ∙ ap (λ es. made z fresh (parts_of ls) es (last_page 0 (regions_in (whole g s ps)))) all_pages ∙ ap (made z fresh (parts_of ls) (image_pages ls)) last_page_is

  pub needs : build_need z (whole g s ps) ≡ start_need z ls
  needs =
      let numbers_many = length-map (image_pages ls) (λ (e : ℕ × List ℕ). e.0) in
      let by_runs = exec_need_is z ls (placed z ls loads) in
      ap (need_of z) all_pages ∙ omega (arith, numbers_many, by_runs)

  pub are_parts : AreParts z (whole g s ps)
  are_parts =
      let first : g.region.first ≡ end_of_loads 0 ls = ap (λ (r : Region). r.first) guard_is in
      let one : g.region.pages ≡ 1 = ap (λ (r : Region). r.pages) guard_is in
      let second : s.region.first ≡ end_of_loads 0 ls + 1 = ap (λ (r : Region). r.first) stack_is in
      let two : s.region.pages ≡ 1 = ap (λ (r : Region). r.pages) stack_is in
      let high = ends_low z 0 ls loads.in_order (some_room z) in
      let both_low : (IsLow z g × IsLow z s) = (omega (arith, first, one, high), omega (arith, second, two, high)) in
      let both_leafy : (IsLeafy g × IsLeafy s) = (ap makes_leaf guard_is, ap makes_leaf stack_is) in
      record {
        few = let longer = length-append ps (g ∷ s ∷ []) in let same = same_length ps ls are in let most = loads.few in omega (arith, longer, same, most);
        ascending = ascending g s z 0 ps ls are loads.in_order (omega (arith, first)) (omega (arith, first, one, second));
        low = each_all (IsLow z) (whole g s ps) (low g s z both_low both_leafy 0 ps ls are loads.in_order);
        leafy = each_all IsLeafy (whole g s ps) (leafy g s z both_low both_leafy ps ls are);
        sources = each_all IsWithoutFile (whole g s ps) (without_file g s (ap (λ (r : Region). is_file r.source) guard_is, ap (λ (r : Region). is_file r.source) stack_is) ps ls are);
      }

-- one more of the segments in a row
module _ (loads : List Load) (i : ℕ) (e : Load) (low : i < length loads) where
  next : map load_of (take (i + 1) loads) ≡ map load_of (take i loads) ++ load_of (get_or loads i e) ∷ []
  next =
      let one_on : i + 1 ≡ suc i = omega arith in
      ap (λ n. map load_of (take n loads)) one_on ∙ ap (map load_of) (take-suc loads i e low) ∙ map-append load_of (take i loads) (get_or loads i e ∷ [])

  pub part_forward : (ps after : List Part) (p : Part) → ArePartsOf ps (map load_of (take i loads)) → IsPartOf p (load_of (get_or loads i e)) → after ≡ ps ++ p ∷ []
      → ArePartsOf after (map load_of (take (i + 1) loads))
  part_forward ps after p are part is =
      subst (λ qs. ArePartsOf qs (map load_of (take (i + 1) loads))) (sym is) (subst (ArePartsOf (ps ++ p ∷ [])) (sym next) (one_part_more ps _ p _ are part))

  pub end_forward : end_of_loads 0 (map load_of (take (i + 1) loads)) ≡ end_page (load_of (get_or loads i e))
  end_forward = ap (end_of_loads 0) next ∙ last_behind 0 (map load_of (take i loads)) (load_of (get_or loads i e))

-- each segment ends below the trapframe
load_low : (z : Scheme) (end : ℕ) (loads : List Load) (i : ℕ) (e : Load) → AreInOrder z end (map load_of loads) → i < length loads → end_page (load_of (get_or loads i e)) + (GUARD_PAGES + STACK_PAGES) ≤ trapframe_page z
load_low z end [] i e ordered low = absurd (omega arith)
load_low z end (l ∷ loads) zero e ordered low = (ordered.0).high
load_low z end (l ∷ loads) (suc i) e ordered low = load_low z (end_page (load_of l)) loads i e ordered.1 (omega arith)

pub load_fits : (z : Scheme) (loads : List Load) (i : ℕ) (e : Load) → AreLoads z (map load_of loads) → i < length loads → (get_or loads i e).address + (get_or loads i e).memory_size < 2 ^ 64
load_fits z loads i e are low = let high = load_low z 0 loads i e are.in_order low in omega (arith, high, of_scheme z)

-- so many parts
pub room : (z : Scheme) (loads : List Load) (i : ℕ) (ps : List Part) → AreLoads z (map load_of loads) → i ≤ length loads → ArePartsOf ps (map load_of (take i loads)) → length ps ≤ 16
room z loads i ps are low parts =
    let same = same_length ps _ parts in
    let mapped = length-map (take i loads) load_of in
    let taken = length-take-le i loads low in
    let all = length-map loads load_of in
    let few = are.few in
    omega (arith, same, mapped, taken, all, few, low)

pub end_fits : (z : Scheme) (loads : List Load) (end : ℕ) → AreLoads z (map load_of loads) → end ≡ end_of_loads 0 (map load_of loads) → end + (GUARD_PAGES + STACK_PAGES) ≤ trapframe_page z
end_fits z loads end are is = let high = ends_low z 0 (map load_of loads) are.in_order (some_room z) in omega (arith, high, is)

-- all of them
pub all_parts : (loads : List Load) (i : ℕ) (ps : List Part) → length loads ≤ i → ArePartsOf ps (map load_of (take i loads)) → ArePartsOf ps (map load_of loads)
all_parts loads i ps over parts = subst (λ ls. ArePartsOf ps (map load_of ls)) (take_all i loads over) parts

pub all_end : (loads : List Load) (i end : ℕ) → length loads ≤ i → end ≡ end_of_loads 0 (map load_of (take i loads)) → end ≡ end_of_loads 0 (map load_of loads)
all_end loads i end over is = is ∙ ap (λ ls. end_of_loads 0 (map load_of ls)) (take_all i loads over)

-- the guard and the stack behind them
pub two_behind : (ps first second : List Part) (g s : Part) → first ≡ ps ++ g ∷ [] → second ≡ first ++ s ∷ [] → second ≡ ps ++ g ∷ s ∷ []
two_behind ps first second g s one two = two ∙ ap (λ qs. qs ++ s ∷ []) one ∙ append_assoc ps (g ∷ []) (s ∷ [])

pub guard_is : (g : Part) (end rights : ℕ) → region_in g ≡ zeros_region end GUARD_PAGES RegionKind.Guard rights → rights ≡ 0 → region_in g ≡ guard_at end
guard_is g end rights is none = is ∙ rw none refl

pub stack_is : (s : Part) (end rights : ℕ) → region_in s ≡ zeros_region (end + GUARD_PAGES) STACK_PAGES RegionKind.Stack rights → rights ≡ 3 → region_in s ≡ stack_at (end + GUARD_PAGES)
stack_is s end rights is three = is ∙ rw three refl

-- what holds of a success
pub if_ok : {A E : Type 0} {P Q : A → Type 0} (r : Result A E) → IfOk r P → ((x : A) → P x → Q x) → IfOk r Q
if_ok (Ok x) holds more = more x holds
if_ok (Err e) holds more = holds
