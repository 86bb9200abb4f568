-- `Granted`: the regions of a process are in order, and each of its settled pages has a grant. Lemma: every process has this
-- in every run since boot.
use Rattle.std.proofs.Common.{◌≡◌, ℕ, ℤ, Bool, true, false, cond, ◌||◌, ◌+◌, ◌++◌, ◌≤◌, ◌*◌, ◌%◌, inl, inr, refl, sym, ap, ◌∙◌, arith, List, [], ◌∷◌, None, Some}
use Rattle.std.specs.Prelude.{nat_abs, nat_lt}
use Rattle.std.proofs.lemmas.Bool.Decides.{nat_tests}
use Rattle.process_laws.proofs.EveryChange.{always_holds, IsKept}
use Rattle.process_laws.proofs.Givens.{image_given, mapped_given, resized_given}
use Rattle.process_laws.proofs.Granting.{region_there}
use Rattle.process_laws.proofs.Grants.{inside_released, mapped_same, resized_same, unmapped_same}
use Rattle.process_laws.proofs.ImageBytes.{loads_byte_is}
use Rattle.process_laws.proofs.InOrder.{order_is_kept}
use Rattle.process_laws.proofs.LookUps.{found_inserted, found_only}
use Rattle.process_laws.proofs.PageBytes.{byte_from, byte_in, byte_in-image, bytes_on}
use Rattle.process_laws.specs.Latest.{loads_byte}
use Rattle.process_laws.specs.Pages.{grant, grant_in, heap_grant, is_between, loads_grant}
use Rattle.process_model.specs.Bytes.{pages_for}
use Rattle.process_model.proofs.EachValue.{found_each}
use Rattle.process_model.specs.Files.{File}
use Rattle.process_model.proofs.GrantLaws.{place_fits}
use Rattle.process_model.specs.Heap.{resized, size_refusal, without_pages}
use Rattle.process_model.specs.Images.{end_page, LoadSegment}
use Rattle.process_model.specs.ImageProcess.{process_of}
use Rattle.process_model.specs.Mappings.{back_of, front_of, mapping_around, mapping_of, mapping_place, with_instead, with_mapping}
use Rattle.process_model.specs.Order.{IsInOrder}
use Rattle.process_model.specs.PageMap.{get}
use Rattle.process_model.specs.Process.{Page, Process, regions}
use Rattle.process_model.specs.Regions.{holds_page, Region}
use Rattle.process_model.specs.Residence.{child_page, marked_page, with_page}
use Rattle.process_model.specs.Steps.{run}
use Rattle.process_model.specs.World.{booted, process_in}
use Rattle.process_model.specs.declared.config.Config.{Config}
use Rattle.process_model.specs.declared.step.Step.{Step}
use Rattle.sv39_entry.specs.Address.{page_of}
use Rattle.sv39_entry.specs.Schemes.{trapframe_page}
use Rattle.sv39_entry.specs.declared.scheme.Scheme.{Scheme}

abbrev pub HasGrants : Process → Type 0
HasGrants p = (page : ℕ) (x : Page) → get p.settled page ≡ Some x → grant p page ≡ None → ⊥

pub record Granted (p : Process) : Type 0 where
  pub ordered : IsInOrder p
  pub grants : HasGrants p

-- an image grants each page for which it has bytes
loads_granted : (end : ℕ) (ls : List LoadSegment) (page b : ℕ) → loads_byte end ls (4096 * page) ≡ Some b → loads_grant end ls page ≡ None → ⊥
loads_granted end [] page b has none = by (is_between end (end + 2) page) refl
  where
    here : page_of (4096 * page) ≡ page
    here = omega arith

    by : (t : Bool) → is_between end (end + 2) page ≡ t → ⊥
    by true inside = grind (arith, nat_tests, inside, none)
    by false out = absurd (let no = sym (ap (λ t. cond t (Some 0) None) (ap (is_between end (end + 2)) here ∙ out)) ∙ has in cc)
loads_granted end (l ∷ ls) page b has none = by (is_between (page_of l.address) (page_of l.address + pages_for l.memory_size) page) refl (loads_granted (end_page l) ls page b)
  where
    here : page_of (4096 * page) ≡ page
    here = omega arith

    by : (t : Bool) → is_between (page_of l.address) (page_of l.address + pages_for l.memory_size) page ≡ t → (loads_byte (end_page l) ls (4096 * page) ≡ Some b → loads_grant (end_page l) ls page ≡ None → ⊥) → ⊥
    by true inside rest = absurd (let no = rw inside at none in cc)
    by false out rest = rest (skip out has) (rw out at none)
      where
        skip : is_between (page_of l.address) (page_of l.address + pages_for l.memory_size) page ≡ false → loads_byte end (l ∷ ls) (4096 * page) ≡ Some b → loads_byte (end_page l) ls (4096 * page) ≡ Some b
        skip out has = rw (ap (is_between (page_of l.address) (page_of l.address + pages_for l.memory_size)) here ∙ out) at has

image_grants : (z : Scheme) (n : ℕ) (ls : List LoadSegment) → HasGrants (process_of z n ls)
image_grants z n ls page x there none =
    let here : page_of (4096 * page) ≡ page = omega arith in
    let has : byte_in (process_of z n ls).settled (4096 * page) ≡ byte_from (Some x.bytes) (4096 * page % 4096) =
    ap (λ k. byte_from (bytes_on (get (process_of z n ls).settled k)) (4096 * page % 4096)) here ∙ ap (λ o. byte_from (bytes_on o) (4096 * page % 4096)) there in
    let byte = sym (byte_in-image z n ls (4096 * page) ∙ loads_byte_is ls (4096 * page)) ∙ has in
    loads_granted 0 ls page _ byte (sym (image_given z n ls page) ∙ none)

module _ (p : Process) (f : Granted p) where
  sized_grants : (wanted : ℤ) → size_refusal p wanted ≡ None → HasGrants (resized p (nat_abs wanted))
  sized_grants wanted none page x there lost = by (is_between new old page || is_between old new page) refl
    where
      new : ℕ
      new = pages_for (nat_abs wanted)

      old : ℕ
      old = pages_for p.size

      was : get p.settled page ≡ Some x
      was = found_only _ p.settled page x there

      gained : (b c : Bool) → is_between new old page ≡ b → is_between old new page ≡ c → (b || c) ≡ true → ⊥
      gained true c e g t = absurd (let no = sym there ∙ inside_released p new old page e in cc)
      gained false false e g t = absurd cc
      gained false true e g t =
          let past : nat_lt page new ≡ true = grind (arith, nat_tests, g) in
          absurd (let no = sym lost ∙ resized_given p f.ordered page wanted none (rw (e, g) refl) ∙ ap (λ t. cond t (Some heap_grant) None) past in cc)

      by : (b : Bool) → (is_between new old page || is_between old new page) ≡ b → ⊥
      by false out = f.grants page x was (sym (resized_same p (nat_abs wanted) page out).grants ∙ lost)
      by true inside = gained (is_between new old page) (is_between old new page) refl refl inside

put_grants : (p : Process) (at : ℕ) (x y : Page) → get p.settled at ≡ Some x → HasGrants p → HasGrants (with_page p at y)
put_grants p at x y e f page v there lost = elim (found_inserted p.settled at page y v there) [
  | inl here ↦ f page x (ap (get p.settled) here.0 ∙ e) lost
  | inr was ↦ f page v was lost
]

module _ (p : Process) (f : Granted p) where
  mapped_grants : (pages first protection flags n : ℕ) → mapping_place p pages ≡ Some first → (page : ℕ) (x : Page) → get p.settled page ≡ Some x → (b : Bool) → holds_page (mapping_of first pages protection flags n) page ≡ b
      → grant (record p { mappings = with_mapping (mapping_of first pages protection flags n) p.mappings }) page ≡ None → ⊥
  mapped_grants pages first protection flags n place page x there true inside lost =
      absurd (let no = sym lost ∙ mapped_given p f.ordered page (mapping_of first pages protection flags n) (place_fits p pages first place) inside in cc)
  mapped_grants pages first protection flags n place page x there false out lost = f.grants page x there (sym (mapped_same p (mapping_of first pages protection flags n) page out).grants ∙ lost)

  unmapped_grants : (m : Region) (first end : ℕ) → first ≤ end → mapping_around p.mappings first end ≡ Some m → (page : ℕ) (x : Page) → get (without_pages p first end).settled page ≡ Some x → (b : Bool) → is_between first end page ≡ b
      → grant (record (without_pages p first end) { mappings = with_instead p.mappings m.first (front_of m first ++ back_of m end) }) page ≡ None → ⊥
  unmapped_grants m first end le around page x there true inside lost = absurd (let no = sym there ∙ inside_released p first end page inside in cc)
  unmapped_grants m first end le around page x there false out lost =
      f.grants page x (found_only _ p.settled page x there) (sym (unmapped_same p m (pages_for p.size) (trapframe_page p.scheme) first end page le out (f.ordered).above around).grants ∙ lost)

granted_is_kept : (z : Scheme) → IsKept z (λ n p. Granted p)
granted_is_kept z =
    let o = order_is_kept z in
    record {
      later = λ n m p le f. f;
      made = λ y same n image ls e. record { ordered = o.made y same n image ls e; grants = image_grants y n ls };
      settled = λ n files p access address granted none f. record {
        ordered = o.settled n files p access address granted none f.ordered;
        grants = λ page x there lost. elim (found_inserted p.settled (page_of address) page _ x there) [
          | inl here ↦ let r = region_there p.scheme (regions p) access address granted in absurd (let no = sym lost ∙ ap (λ k. grant p k) here.0 ∙ ap (λ u. grant_in u (page_of address)) r.1 in cc)
          | inr was ↦ f.grants page x was lost
        ];
      };
      taken = λ n shared p page x e f. record { ordered = o.taken n shared p page x e f.ordered; grants = put_grants p page x _ e f.grants };
      written = λ n p page x bytes e long f. record { ordered = o.written n p page x bytes e long f.ordered; grants = put_grants p page x _ e f.grants };
      awaiting = λ n p a f. record { ordered = o.awaiting n p a f.ordered; grants = f.grants };
      sized = λ n p wanted none f. record { ordered = o.sized n p wanted none f.ordered; grants = sized_grants p f wanted none };
      mapping = λ n files p len protection flags file first none place f. record {
        ordered = o.mapping n files p len protection flags file first none place f.ordered;
        grants = λ page x there lost. mapped_grants p f (pages_for len) first protection flags file place page x there (holds_page (mapping_of first (pages_for len) protection flags file) page) refl lost;
      };
      unmapping = λ n p m first end le around one f. record {
        ordered = o.unmapping n p m first end le around one f.ordered;
        grants = λ page x there lost. unmapped_grants p f m first end le around page x there (is_between first end page) refl lost;
      };
      parent = λ n p f. record { ordered = o.parent n p f.ordered; grants = λ page x there. let y = found_each (marked_page p) p.settled page x there in f.grants page y.0 y.1 };
      child = λ n p f. record { ordered = o.child n p f.ordered; grants = λ page x there. let y = found_each (child_page p) p.settled page x there in f.grants page y.0 y.1 };
    }

pub always_granted : (c : Config) (files : List File) (xs : List Step) (s : ℕ) (p : Process) → process_in (run (booted c files) xs).world s ≡ Some p → Granted p
always_granted c files xs s p e = (always_holds (λ n p. Granted p) c files xs (granted_is_kept c.scheme)).each s p e
