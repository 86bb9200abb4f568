-- Lemmas for munmap: the run (pages of one mapping) that it is asked to unmap, in the model's definition (`asked`), or the
-- refusal; it is a run of the process (`run_of_mapping`); and once its pages are dropped and what is left replaces the
-- mapping, the space is the model's process (`relaid_as`).
use Rattle.std.proofs.Common.{◌≡◌, ℕ, Bool, true, false, ◌&&◌, ◌+◌, ◌%◌, ◌≤◌, refl, ap, sym, subst, arith, List, ◌++◌, Option, None, Some}
use Rattle.std.specs.Prelude.{◌==◌, nat_lt, option_to_list, Result, Ok, Err}
use Rattle.address_space.specs.Agreement.{Body, IsSpace}
use Rattle.address_space.specs.SpaceTeardown.{Drops}
use Rattle.address_space.specs.Steps.{CanReplaceLayout, HasReplacedLayout, left_with}
use Rattle.mmap_regions.proofs.Around.{around_low}
use Rattle.mmap_regions.specs.Runs.{IsRunOf, MappedRun, requested_run, run_if, run_in, run_unless}
use Rattle.process_model.specs.Bytes.{pages_for}
use Rattle.process_model.specs.Files.{File}
use Rattle.process_model.specs.Heap.{without_pages}
use Rattle.process_model.proofs.MappingRows.{around_each, around_holds}
use Rattle.process_model.specs.Mappings.{back_of, front_of, leaves_hole, mapping_around, Unmapped, unmapped, unmapped_from, unmapped_if, unmapped_in, unmapped_unless, with_instead}
use Rattle.process_model.specs.Order.{HasOrder, IsMapping}
use Rattle.process_model.proofs.OrderLaws.{unmapped_order}
use Rattle.process_model.proofs.PageRegions.{mapping_at, region_left}
use Rattle.process_model.specs.Process.{Process}
use Rattle.process_model.specs.Regions.{is_guard_kind, is_shared_kind, Region}
use Rattle.process_model.proofs.ReleaseLaws.{was_settled}
use Rattle.process_model.specs.declared.reply.Refusal.{Refusal}
use Rattle.sv39_entry.specs.Address.{page_of}
use Rattle.table_walk.specs.Tables.{Tables}

-- what munmap is asked for

pub record IsAsked (p : Process) (address len : ℕ) (r : MappedRun) : Type 0 where
  pub around : mapping_around p.mappings r.first r.end ≡ Some r.mapping
  pub whole : leaves_hole r.mapping r.first r.end ≡ false
  pub first : r.first ≡ page_of address
  pub end : r.end ≡ page_of address + pages_for len
  pub is : (files : List File) → unmapped files p address len ≡ Ok (unmapped_from files p r.mapping r.first r.end)

-- the parts of the definition, and those of the run that is asked for

module _ (p : Process) (first end : ℕ) where
  record IsPart (r : MappedRun) (o : List File → Result Unmapped Refusal) : Type 0 where
    pub around : mapping_around p.mappings first end ≡ Some r.mapping
    pub whole : leaves_hole r.mapping first end ≡ false
    pub first_is : r.first ≡ first
    pub end_is : r.end ≡ end
    pub is : (files : List File) → o files ≡ Ok (unmapped_from files p r.mapping first end)

  same_run : (x r : MappedRun) (o : List File → Result Unmapped Refusal) → x ≡ r → IsPart x o → IsPart r o
  same_run x r o same is = subst (λ y. IsPart y o) same is

  unless_asked : (m : Region) (r : MappedRun) (hole : Bool) → mapping_around p.mappings first end ≡ Some m → leaves_hole m first end ≡ hole → run_unless m first end hole ≡ Ok r
      → IsPart r (λ files. unmapped_unless files p m first end hole)
  unless_asked m r true around whole is = absurd (cc)
  unless_asked m r false around whole is =
      let same : record { mapping = m; first = first; end = end } ≡ r = cc in
      same_run (record { mapping = m; first = first; end = end }) r (λ files. unmapped_unless files p m first end false) same
      (record { around = around; whole = whole; first_is = refl; end_is = refl; is = λ files. refl })

  in_asked : (o : Option Region) (r : MappedRun) → mapping_around p.mappings first end ≡ o → run_in first end o ≡ Ok r → IsPart r (λ files. unmapped_in files p first end o)
  in_asked None r around is = absurd (cc)
  in_asked (Some m) r around is = unless_asked m r (leaves_hole m first end) around refl is

  if_asked : (b : Bool) (r : MappedRun) → run_if p first end b ≡ Ok r → IsPart r (λ files. unmapped_if files p first end b)
  if_asked false r is = absurd (cc)
  if_asked true r is = in_asked (mapping_around p.mappings first end) r refl is

  unless_refused : (m : Region) (e : Refusal) (hole : Bool) → run_unless m first end hole ≡ Err e → (files : List File) → unmapped_unless files p m first end hole ≡ Err e
  unless_refused m e true is files = cc
  unless_refused m e false is files = absurd (cc)

  in_refused : (o : Option Region) (e : Refusal) → run_in first end o ≡ Err e → (files : List File) → unmapped_in files p first end o ≡ Err e
  in_refused None e is files = cc
  in_refused (Some m) e is files = unless_refused m e (leaves_hole m first end) is files

  if_refused : (b : Bool) (e : Refusal) → run_if p first end b ≡ Err e → (files : List File) → unmapped_if files p first end b ≡ Err e
  if_refused false e is files = cc
  if_refused true e is files = in_refused (mapping_around p.mappings first end) e is files

module _ (p : Process) (address len : ℕ) where
  abbrev first : ℕ
  first = page_of address

  abbrev end : ℕ
  end = page_of address + pages_for len

  pub asked : (r : MappedRun) → requested_run p address len ≡ Ok r → IsAsked p address len r
  unfolding unmapped
  asked r is =
      let part = if_asked p first end (address % 4096 == 0 && nat_lt 0 len) r is in
      record {
        around = rw (part.first_is, part.end_is) part.around;
        whole = rw (part.first_is, part.end_is) part.whole;
        first = part.first_is;
        end = part.end_is;
        is = λ files. rw (part.first_is, part.end_is) (part.is files);
      }

  pub refused : (e : Refusal) → requested_run p address len ≡ Err e → (files : List File) → unmapped files p address len ≡ Err e
  unfolding unmapped
  refused e is files = if_refused p first end (address % 4096 == 0 && nat_lt 0 len) e is files

pub drops_asked : (p : Process) (address len : ℕ) (r : MappedRun) → IsAsked p address len r → (t u : Tables) → Drops t u r.first r.end → Drops t u (page_of address) (page_of address + pages_for len)
drops_asked p address len r is t u drops = subst (λ n. Drops t u n (page_of address + pages_for len)) is.first (subst (λ n. Drops t u r.first n) is.end drops)

-- the run, and what is left

module _ (p : Process) (address len : ℕ) (r : MappedRun) (is : IsAsked p address len r) (order : HasOrder 0 p) where
  ascends : r.first ≤ r.end
  ascends = let from = is.first in let to = is.end in omega (arith, from, to)

  pub run_of_mapping : IsRunOf p r
  run_of_mapping =
      let holds = around_holds r.first r.end p.mappings r.mapping is.around in
      record {
        mapping = around_each IsMapping r.first r.end p.mappings r.mapping order.mapped is.around;
        from = holds.0;
        order = ascends;
        to = holds.1;
        low = (around_low p r.first r.end r.mapping order is.around).1;
        alone = λ n from to. mapping_at 0 p r.first r.end n r.mapping order is.around from to;
      }

  module _ (rest : Option Region) (left : option_to_list rest ≡ front_of r.mapping r.first ++ back_of r.mapping r.end) where
    abbrev pub after : Process
    after = left_with (without_pages p r.first r.end) r.mapping.first rest

    abbrev modelled : Process
    modelled = record (without_pages p r.first r.end) { mappings = with_instead p.mappings r.mapping.first (front_of r.mapping r.first ++ back_of r.mapping r.end) }

    pub after_is : after ≡ modelled
    after_is = ap (λ ms. record (without_pages p r.first r.end) { mappings = with_instead p.mappings r.mapping.first ms }) left

    can_relay : CanReplaceLayout (without_pages p r.first r.end) modelled
    can_relay = record {
      scheme = refl;
      settled = refl;
      tabled = refl;
      order = unmapped_order 0 p r.mapping r.first r.end order is.around ascends;
      leaves = λ n s x at in_region.
          let out = (was_settled p r.first r.end n s at).1 in
          let found = region_left 0 p r.mapping r.first r.end n x order is.around ascends out in_region in (
            found.0,
            found.1,
            record {
              reads = found.2.reads;
              writes = found.2.writes;
              executes = found.2.executes;
              guard = ap is_guard_kind found.2.kind;
              shared = ap is_shared_kind found.2.kind;
            },
          );
    }

    pub relaid_as : (x y : Body) (u : Tables) → IsSpace x u (without_pages p r.first r.end) → HasReplacedLayout x y (λ q. left_with q r.mapping.first rest) → IsSpace y u modelled
    relaid_as x y u space relaid = subst (IsSpace y u) after_is (relaid u (without_pages p r.first r.end) space (subst (CanReplaceLayout (without_pages p r.first r.end)) (sym after_is) can_relay))
