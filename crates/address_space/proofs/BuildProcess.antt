-- Lemmas: settling (bringing into memory) the parts' pages one after another makes the process that `process_of_parts` makes
-- of them at once, but for copy numbers (which copy of a page it is). In memory these do not matter (`stands_like`). Also
-- how many page tables the process has, with all these pages and with none.
use Rattle.std.proofs.Common.{◌≡◌, ℕ, zero, suc, Bool, false, ◌+◌, ◌<◌, ◌≤◌, inl, inr, refl, ap, sym, subst, ◌∙◌, arith, List, [], ◌∷◌, ◌++◌, map, Option, Some, None}
use Rattle.std.specs.Prelude.{All, Contains, option_map}
use Rattle.std.proofs.lemmas.Bool.{cases_eq}
use Rattle.std.proofs.lemmas.List.Concat.{flat_map-cons}
use Rattle.std.proofs.lemmas.Option.{same_Some}
use Rattle.std.proofs.lemmas.Map.Lookups.{exact_unsigned}
use Rattle.std.specs.Cmp.{nat_cmp_total}
use Rattle.std.specs.FinMap.Entries.{same_entries}
use Rattle.std.specs.Ordering.{nat_cmp}
use Rattle.frame_bytes.specs.Contents.{HasBytes}
use Rattle.frame_store.specs.View.{View}
use Rattle.process_model.specs.Frames.{tables_needed, tables_of}
use Rattle.process_model.specs.ImageProcess.{numbered, page_run}
use Rattle.process_model.specs.PageMap as pages
use Rattle.process_model.specs.PageMap.{NumberSet, from_list, numbers, with_numbers}
use Rattle.process_model.specs.Process.{Page, Process, regions}
use Rattle.process_model.specs.Regions.{end_of, region_at}
use Rattle.table_walk.specs.TableCounts.{AreTablesOf}
use Rattle.table_walk.specs.Tables.{Tables, HasTables, leaf_node}
use Rattle.address_space.specs.Agreement.{is_dirty_page, IsPageLeaf, ShowsPages, IsInMemory, HasKernelLeaf, code_rights, data_rights}
use Rattle.address_space.specs.Parts.{bare_process, IsAscending, numbers_of, pages_of, part_pages, process_of_parts, region_in, with_settled, with_pages}
use Rattle.address_space.specs.declared.part.Part.{Part}
use Rattle.address_space.proofs.BuildPages.{Pages, other_stays, page_numbers, same_regions, same_tables_needed, same_scheme}
use Rattle.process_model.proofs.ValueSets.{none_in}
use Rattle.process_model.specs.Insertion.{behind_more, first_or, inserted_here, inserted_other, key_in, key_out}
use Rattle.sv39_entry.specs.Schemes.{trapframe_page, top_level, trampoline_page}
use Rattle.sv39_entry.specs.declared.scheme.Scheme.{Scheme}
use Rattle.sv39_entry.specs.declared.scheme.Scheme.TheVariants.{Sv39, Sv48}

-- ---- processes that differ in their copy numbers alone

-- what of a page is in memory
abbrev shown : Option Page → Option (List ℕ × Bool × Bool)
shown o = option_map (λ (s : Page). (s.bytes, s.cow, s.dirty)) o

pub record IsLike (p q : Process) : Type 0 where
  pub scheme : p.scheme ≡ q.scheme
  pub regions : regions p ≡ regions q
  pub shows : (n : ℕ) → shown (pages.get p.settled n) ≡ shown (pages.get q.settled n)
  pub tabled : pages.keys p.tabled ≡ pages.keys q.tabled

record Found (o : Option Page) (s : Page) : Type 0 where
  page : Page
  found : o ≡ Some page
  bytes : page.bytes ≡ s.bytes
  mark : page.cow ≡ s.cow
  stored : page.dirty ≡ s.dirty

found_like : (a : Option Page) (s : Page) → shown a ≡ shown (Some s) → Found a s
found_like None s same = absurd (cc)
found_like (Some x) s same =
    let all : ◌≡◌ {A = List ℕ × Bool × Bool} (x.bytes, x.cow, x.dirty) (s.bytes, s.cow, s.dirty) =
    same_Some (x.bytes, x.cow, x.dirty) (s.bytes, s.cow, s.dirty) same in
    record {
      page = x;
      found = refl;
      bytes = ap (λ (e : List ℕ × Bool × Bool). e.0) all;
      mark = ap (λ (e : List ℕ × Bool × Bool). e.1) all;
      stored = ap (λ (e : List ℕ × Bool × Bool). e.2) all;
    }

module _ (p q : Process) (like : IsLike p q) where
  found_there : (n : ℕ) (s : Page) → pages.get q.settled n ≡ Some s → Found (pages.get p.settled n) s
  found_there n s at = found_like (pages.get p.settled n) s (like.shows n ∙ ap shown at)

  found_back : (n : ℕ) (s : Page) → pages.get p.settled n ≡ Some s → Found (pages.get q.settled n) s
  found_back n s at = found_like (pages.get q.settled n) s (sym (like.shows n) ∙ ap shown at)

  shows_like : (v : View) (trapframe : ℕ) (t : Tables) → ShowsPages v trapframe t p → ShowsPages v trapframe t q
  shows_like v trapframe t s = record {
    on_trampoline = subst (λ z. HasKernelLeaf t (trampoline_page z) 0 code_rights) like.scheme s.on_trampoline;
    on_trapframe = subst (λ z. HasKernelLeaf t (trapframe_page z) trapframe data_rights) like.scheme s.on_trapframe;
    settled = λ n page at.
        let there = found_there n page at in
        let is = s.settled n there.page there.found in
        record {
          region = is.region;
          frame = is.frame;
          leaf = is.leaf;
          in_region = ap (λ rs. region_at rs n) (sym like.regions) ∙ is.in_region;
          mapped = is.mapped;
          made =
              subst (λ stored. IsPageLeaf is.leaf is.frame is.region page.cow (is_dirty_page is.region (record page { dirty = stored }))) there.stored
              (subst (λ mark. IsPageLeaf is.leaf is.frame is.region mark (is_dirty_page is.region there.page)) there.mark is.made);
          bytes = subst (HasBytes v is.frame) there.bytes is.bytes;
        };
    only = λ k w leaf. elim (s.only k w leaf) [
      | inl is ↦ inl (is ∙ ap (λ z. leaf_node (trampoline_page z)) like.scheme)
      | inr (inl is) ↦ inr (inl (is ∙ ap (λ z. leaf_node (trapframe_page z)) like.scheme))
      | inr (inr (n, page, is, at)) ↦ let there = found_back n page at in inr (inr (n, there.page, is, there.found))
    ];
    low = λ n page at. let there = found_there n page at in subst (λ z. n < trapframe_page z) like.scheme (s.low n there.page there.found);
  }

  pub stands_like : (v : View) (root trapframe : ℕ) (extra : ℕ → ℕ) (t : Tables) → IsInMemory v root trapframe extra t p → IsInMemory v root trapframe extra t q
  stands_like v root trapframe extra t s = record {
    tables = subst (λ z. HasTables z v root t) like.scheme s.tables;
    owns = s.owns;
    shows = shows_like v trapframe t s.shows;
    tabled = subst (λ z. AreTablesOf z t (pages.keys q.tabled)) like.scheme (subst (AreTablesOf p.scheme t) like.tabled s.tabled);
    tabled_low = subst (λ z. All (λ n. n < trapframe_page z) (pages.keys q.tabled)) like.scheme (subst (All (λ n. n < trapframe_page p.scheme)) like.tabled s.tabled_low);
  }

-- ---- pages in ascending order

abbrev IsRising : ℕ → Pages → Type 0
IsRising low [] = Unit {0}
IsRising low (e ∷ es) = (low ≤ e.0) × IsRising (e.0 + 1) es

rising_from : (es : Pages) (low lower : ℕ) → lower ≤ low → IsRising low es → IsRising lower es
rising_from [] low lower le up = tt
rising_from (e ∷ es) low lower le up = (omega (arith, le, up.0), up.1)

rising_above : (es : Pages) (low x : ℕ) → IsRising low es → Contains (page_numbers es) x → low ≤ x
rising_above [] low x up h = absurd (none_in x h)
rising_above (e ∷ es) low x up h = elim (first_or e.0 x (page_numbers es) h) [
  | inl same ↦ omega (arith, same, up.0)
  | inr later ↦ let rest = rising_above es (e.0 + 1) x up.1 later in omega (arith, rest, up.0)
]

rising_run : (k first low : ℕ) (bytes : List ℕ) (rest : Pages) → low ≤ first → IsRising (first + k) rest → IsRising low (page_run first bytes k ++ rest)
rising_run zero first low bytes rest le up = rising_from rest (first + 0) low (omega (arith, le)) up
rising_run (suc k) first low bytes rest le up =
    let at : first + suc k ≡ first + 1 + k = omega arith in
    (le, rising_run k (first + 1) (first + 1) _ rest (omega arith) (subst (λ n. IsRising n rest) at up))

pub rising_parts : (ps : List Part) (end : ℕ) → IsAscending end ps → IsRising end (pages_of ps)
rising_parts [] end up = tt
rising_parts (p ∷ ps) end up =
    subst (IsRising end) (sym (flat_map-cons part_pages p ps))
    (rising_run p.region.pages p.region.first end p.bytes.now (pages_of ps) up.0 (rising_parts ps (end_of (region_in p)) up.1))

-- ---- one after another, and all at once

same_pages : (es : Pages) (low : ℕ) → IsRising low es → (p : Process) (fresh n : ℕ) → pages.get p.settled n ≡ None
    → shown (pages.get (with_pages p es).settled n) ≡ shown (pages.get (from_list (numbered fresh es)) n)
same_pages [] low up p fresh n none = ap shown none
same_pages (e ∷ es) low up p fresh n none =
    let first : Page = record { bytes = e.1; copy = 0; cow = false; dirty = false } in
    let second : Page = record { bytes = e.1; copy = fresh; cow = false; dirty = false } in
    elim (cases_eq n e.0) [
      | inl same ↦
          let later : Contains (page_numbers es) n → ⊥ = λ h. let above = rising_above es (e.0 + 1) n up.1 h in omega (arith, above, same) in
          ap shown (other_stays es (with_settled p e) n later ∙ inserted_here e.0 first p.settled n same)
          ∙ sym (ap shown (inserted_here e.0 second (from_list (numbered (fresh + 1) es)) n same))
      | inr apart ↦
          same_pages es (e.0 + 1) up.1 (with_settled p e) (fresh + 1) n (inserted_other e.0 first p.settled n apart ∙ none)
          ∙ sym (ap shown (inserted_other e.0 second (from_list (numbered (fresh + 1) es)) n apart))
    ]

-- a number that comes first may come last
number_last : (ns : List ℕ) (m : NumberSet) (k q : ℕ) → pages.get (with_numbers (pages.insert m k tt) ns) q ≡ pages.get (pages.insert (with_numbers m ns) k tt) q
number_last [] m k q = refl
number_last (x ∷ ns) m k q = elim (cases_eq q x) [
  | inl same ↦ inserted_here x tt (with_numbers (pages.insert m k tt) ns) q same ∙ sym (elim (cases_eq q k) [
    | inl here ↦ inserted_here k tt (pages.insert (with_numbers m ns) x tt) q here
    | inr apart ↦ inserted_other k tt (pages.insert (with_numbers m ns) x tt) q apart ∙ inserted_here x tt (with_numbers m ns) q same
  ])
  | inr other ↦ inserted_other x tt (with_numbers (pages.insert m k tt) ns) q other ∙ number_last ns m k q ∙ elim (cases_eq q k) [
    | inl here ↦ inserted_here k tt (with_numbers m ns) q here ∙ sym (inserted_here k tt (pages.insert (with_numbers m ns) x tt) q here)
    | inr apart ↦
        inserted_other k tt (with_numbers m ns) q apart
        ∙ sym (inserted_other k tt (pages.insert (with_numbers m ns) x tt) q apart ∙ inserted_other x tt (with_numbers m ns) q other)
  ]
]

same_tabled : (es : Pages) (p : Process) (q : ℕ) → pages.get (with_pages p es).tabled q ≡ pages.get (with_numbers p.tabled (page_numbers es)) q
same_tabled [] p q = refl
same_tabled (e ∷ es) p q = same_tabled es (with_settled p e) q ∙ number_last (page_numbers es) p.tabled e.0 q

same_keys : (m n : NumberSet) → ((q : ℕ) → pages.get m q ≡ pages.get n q) → pages.keys m ≡ pages.keys n
same_keys m n same = ap (map (λ (e : ℕ × Unit {0}). e.0)) (same_entries nat_cmp nat_cmp_total exact_unsigned m.entries n.entries m.sorted n.sorted same)

pub whole_process : (z : Scheme) (ps : List Part) → IsAscending 0 ps → (fresh : ℕ) → IsLike (with_pages (bare_process z ps) (pages_of ps)) (process_of_parts z fresh ps)
whole_process z ps up fresh = record {
  scheme = same_scheme (pages_of ps) (bare_process z ps);
  regions = same_regions (pages_of ps) (bare_process z ps);
  shows = λ n. same_pages (pages_of ps) 0 (rising_parts ps 0 up) (bare_process z ps) fresh n refl;
  tabled = same_keys (with_pages (bare_process z ps) (pages_of ps)).tabled (numbers (numbers_of ps)) (same_tabled (pages_of ps) (bare_process z ps));
}

-- ---- its tables

in_numbers : (ns : List ℕ) (x : ℕ) → Contains ns x → Contains (pages.keys (numbers ns)) x
in_numbers [] x h = h
in_numbers (n ∷ ns) x h = key_in n tt (numbers ns) x (behind_more n ns (pages.keys (numbers ns)) (in_numbers ns) x h)

from_numbers : (ns : List ℕ) (x : ℕ) → Contains (pages.keys (numbers ns)) x → Contains ns x
from_numbers [] x h = h
from_numbers (n ∷ ns) x h = behind_more n (pages.keys (numbers ns)) ns (from_numbers ns) x (key_out n tt (numbers ns) x h)

pub whole_tables : (z : Scheme) (ps : List Part) → tables_of (with_pages (bare_process z ps) (pages_of ps)) ≡ tables_needed z (numbers_of ps)
whole_tables z ps =
    ap (λ s. tables_needed s (pages.keys (with_pages (bare_process z ps) (pages_of ps)).tabled)) (same_scheme (pages_of ps) (bare_process z ps)) ∙ ap (tables_needed z) (same_keys (with_pages (bare_process z ps) (pages_of ps)).tabled (numbers (numbers_of ps)) (same_tabled (pages_of ps) (bare_process z ps)))
    ∙ same_tables_needed z (pages.keys (numbers (numbers_of ps))) (numbers_of ps) (from_numbers (numbers_of ps)) (in_numbers (numbers_of ps))

pub bare_tables : (z : Scheme) (ps : List Part) → tables_of (bare_process z ps) ≡ 1 + top_level z
unfolding tables_needed
bare_tables Sv39 ps = refl
bare_tables Sv48 ps = refl
