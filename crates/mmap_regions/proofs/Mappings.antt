-- Lemmas for mmap: the model's result by the first test that fails, or the process with the mapping (`granted`); the regions
-- stay in order with it (`relays`); and the space with the code's mapping is the model's process (`with_mapping`).
use Rattle.std.proofs.Common.{◌≡◌, ℕ, true, false, not, ◌&&◌, ◌≤◌, ◌<◌, ◌+◌, ap, subst, sym, ◌∙◌, refl, Some, None, Ok, Err, List, length, map}
use Rattle.std.specs.Prelude.{nat_le, slice_get, unwrap_or}
use Rattle.std.specs.List.{list_all}
use Rattle.std.proofs.lemmas.Bool.{and_parts, le-leb, leb-true, lt-leb}
use Rattle.std.proofs.lemmas.List.{length-map}
use Rattle.process_model.specs.Bytes.{pages_for}
use Rattle.process_model.specs.Files.{File, is_writable}
use Rattle.process_model.proofs.GrantLaws.{place_fits}
use Rattle.process_model.specs.Mappings.{asks_write, fits_at, is_apart, is_bad_mapping, is_shared, map_refusal, mapped, mapped_unless, mapping_of, mapping_place}
use Rattle.process_model.specs.Order.{HasOrder}
use Rattle.process_model.proofs.OrderLaws.{mapped_order}
use Rattle.process_model.proofs.PageRegions.{region_with_mapping}
use Rattle.process_model.specs.Process.{Process}
use Rattle.process_model.specs.Regions.{Region}
use Rattle.process_model.specs.declared.reply.Refusal.{Refusal}
use Rattle.process_model.specs.declared.reply.Refusal.TheVariants.{BadArgument, FileNotWritable, MappingsFull, NoRoom}
use Rattle.sv39_entry.specs.Schemes.{trapframe_page}
use Rattle.table_walk.specs.Tables.{Tables}
use Rattle.address_space.specs.Agreement.{Body, IsSpace}
use Rattle.address_space.specs.Layouts.{LaysOut, Layout, region_of}
use Rattle.address_space.specs.Steps.{CanReplaceLayout, HasReplacedLayout, mapped_with}
use Rattle.address_space.specs.declared.region.Region.{Region as CodeRegion}
use Rattle.process_model.specs.declared.limits.TheConstants.{MOST_MAPPINGS}

-- a process has as many mappings as the code's list
pub as_many : (p : Process) (l : Layout) (rs : List CodeRegion) → LaysOut l p → map region_of rs ≡ l.mappings → length p.mappings ≡ length rs
as_many p l rs lays is = ap length (lays.mappings ∙ sym is) ∙ length-map rs region_of

-- the place of a mapping lies below the trapframe
pub place_below : (p : Process) (pages first : ℕ) → Some first ≡ mapping_place p pages → first + pages ≤ trapframe_page p.scheme
place_below p pages first is =
    let outer = and_parts (nat_le (pages_for p.size) first && nat_le (first + pages) (trapframe_page p.scheme)) (list_all (is_apart first pages) p.mappings) (place_fits p pages first (sym is)) in
    leb-true (first + pages) (trapframe_page p.scheme) (and_parts (nat_le (pages_for p.size) first) (nat_le (first + pages) (trapframe_page p.scheme)) outer.0).1

-- a space with a mapping of the code has the model's
pub with_mapping : (x y : Body) (t : Tables) (p : Process) (run : CodeRegion) (r : Region) → region_of run ≡ r → HasReplacedLayout x y (λ q. mapped_with q (region_of run))
    → CanReplaceLayout p (mapped_with p r) → IsSpace x t p → IsSpace y t (mapped_with p r)
with_mapping x y t p run r same relaid can agrees =
    subst (λ (m : Region). IsSpace y t (mapped_with p m)) same (relaid t p agrees (subst (λ (m : Region). CanReplaceLayout p (mapped_with p m)) (sym same) can))

module _ (files : List File) (p : Process) (len protection flags n : ℕ) where
  refused : (e : Refusal) → map_refusal files p len protection flags n ≡ Some e → mapped files p len protection flags n ≡ Err e
  unfolding mapped
  refused e is = ap (mapped_unless p (mapping_of (unwrap_or (mapping_place p (pages_for len)) 0) (pages_for len) protection flags n)) is

  pub bad_argument : is_bad_mapping files len protection flags n ≡ true → mapped files p len protection flags n ≡ Err BadArgument
  bad_argument is = refused BadArgument (rw is refl)

  module _ (good : is_bad_mapping files len protection flags n ≡ false) where
    pub not_writable : (is_shared flags && asks_write protection && not (is_writable (slice_get files n))) ≡ true → mapped files p len protection flags n ≡ Err FileNotWritable
    not_writable is = refused FileNotWritable (rw (good, is) refl)

    module _ (may : (is_shared flags && asks_write protection && not (is_writable (slice_get files n))) ≡ false) where
      pub full : MOST_MAPPINGS ≤ length p.mappings → mapped files p len protection flags n ≡ Err MappingsFull
      full is = refused MappingsFull (rw (good, may, le-leb MOST_MAPPINGS (length p.mappings) is) refl)

      module _ (few : length p.mappings < MOST_MAPPINGS) (pages : ℕ) (long : pages ≡ pages_for len) where
        pub no_room : None ≡ mapping_place p pages → mapped files p len protection flags n ≡ Err NoRoom
        no_room is =
            let none : mapping_place p (pages_for len) ≡ None = ap (mapping_place p) (sym long) ∙ sym is in
            refused NoRoom (rw (good, may, lt-leb MOST_MAPPINGS (length p.mappings) few, none) refl)

        pub granted : (first : ℕ) → Some first ≡ mapping_place p pages
            → mapped files p len protection flags n ≡ Ok (record { process = mapped_with p (mapping_of first pages protection flags n); first = first })
        unfolding mapped
        granted first is =
            let there : mapping_place p (pages_for len) ≡ Some first = ap (mapping_place p) (sym long) ∙ sym is in
            rw (good, may, lt-leb MOST_MAPPINGS (length p.mappings) few, there, long) refl

    -- the regions with the mapping stand in order, and each settled page keeps its region
    pub relays : (pages first : ℕ) → pages ≡ pages_for len → Some first ≡ mapping_place p pages → HasOrder 0 p
        → CanReplaceLayout p (mapped_with p (mapping_of first pages protection flags n))
    relays pages first long is order =
        let fits : fits_at p pages first ≡ true = place_fits p pages first (sym is) in
        record {
          scheme = refl;
          settled = refl;
          tabled = refl;
          order = rw long (mapped_order 0 p files len protection flags n first good (rw long at fits) order);
          leaves = λ page s r settled in_region. (
            r,
            region_with_mapping p (mapping_of first pages protection flags n) page r fits in_region,
            record { reads = refl; writes = refl; executes = refl; guard = refl; shared = refl },
          );
        }
