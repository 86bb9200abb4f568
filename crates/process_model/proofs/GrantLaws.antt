-- Laws of what follows if sbrk or mmap is not refused: bounds of the new size; good arguments (`IsGoodMapping`), which make
-- a region with leaf rights and bytes in reach (`IsMapping`); and a place at which the mapping fits. Before that: of a list
-- of tests with no first true one, all are false.
use Rattle.std.proofs.Common.{◌≡◌, ◌≢◌, ℕ, zero, suc, ℤ, pos, negsuc, Bool, true, false, cond, not, max, ◌&&◌, ◌||◌, ◌≤◌, inl, inr, refl}
use Rattle.std.proofs.Common.{sym, ap, ◌∙◌, arith, List, [], ◌∷◌, Option, None, Some, length}
use Rattle.std.specs.Prelude.{◌==◌, nat_abs, nat_le, nat_lt, int_lt, fold, filter, is_none, slice_get}
use Rattle.std.proofs.lemmas.Bool.{cases_lt, eqb-false, ltb-false, or_parts}
use Rattle.std.proofs.lemmas.Option.{same_Some}
use Rattle.process_model.specs.Bytes.{first_true, pages_for}
use Rattle.process_model.specs.Files.{File, is_writable}
use Rattle.process_model.specs.Heap.{heap_limit, size_refusal}
use Rattle.process_model.specs.Mappings.{asks_execute, asks_read, asks_write, fits_at, greatest, is_bad_mapping, is_shared}
use Rattle.process_model.specs.Mappings.{map_refusal, mapping_of, mapping_place, places}
use Rattle.process_model.specs.Order.{IsMapping}
use Rattle.process_model.specs.Process.{Process}
use Rattle.process_model.specs.Regions.{is_guard_kind, private_mapping, shared_mapping}
use Rattle.process_model.specs.declared.reply.Refusal.TheVariants.{BadArgument, BadSize, FileNotWritable, MappingsFull, NoRoom}
use Rattle.process_model.specs.declared.limits.TheConstants.{LONGEST_MAPPING, MOST_MAPPINGS}

-- ---- lists of tests

-- every test of the list is false
abbrev pub AllFalse : {A : Type 0} → List (Bool × A) → Type 0
AllFalse [] = Unit {0}
AllFalse (t ∷ ts) = (t.0 ≡ false) × AllFalse ts

first_false : {A : Type 0} (b : Bool) (x : A) (o : Option A) → cond b (Some x) o ≡ None → (b ≡ false) × (o ≡ None)
first_false true x o e = cc
first_false false x o e = (refl, e)

pub none_true : {A : Type 0} (ts : List (Bool × A)) → first_true ts ≡ None → AllFalse ts
none_true [] e = tt
none_true (t ∷ ts) e = let h = first_false t.0 t.1 (first_true ts) e in (h.0, none_true ts h.1)

-- ---- the heap

wanted_above : (wanted : ℤ) (base : ℕ) → int_lt wanted (pos base) ≡ false → base ≤ nat_abs wanted
wanted_above (pos n) base e = ltb-false n base e
wanted_above (negsuc n) base e = cc

-- a size that is not refused is at or above the heap's base, and its pages end at or below the lowest mapping (or the
-- trapframe)
pub size_granted : (p : Process) (wanted : ℤ) → size_refusal p wanted ≡ None → (p.heap_base ≤ nat_abs wanted)
    × (pages_for (nat_abs wanted) ≤ heap_limit p.scheme p.mappings)
size_granted p wanted e =
    let tests = none_true ((int_lt wanted (pos p.heap_base), BadSize)
    ∷ (nat_lt (heap_limit p.scheme p.mappings) (pages_for (nat_abs wanted)), NoRoom) ∷ []) e in
    (wanted_above wanted p.heap_base tests.0, ltb-false (heap_limit p.scheme p.mappings) (pages_for (nat_abs wanted)) tests.1.0)

-- ---- mmap

-- a mapping that is not refused is not bad (`is_bad_mapping`), and has a place
pub map_granted : (files : List File) (p : Process) (len protection flags file : ℕ) → map_refusal files p len protection flags file ≡ None
    → (is_bad_mapping files len protection flags file ≡ false) × (is_none (mapping_place p (pages_for len)) ≡ false)
map_granted files p len protection flags file e =
    let tests = none_true (
    (is_bad_mapping files len protection flags file, BadArgument)
    ∷ (is_shared flags && asks_write protection && not (is_writable (slice_get files file)), FileNotWritable)
    ∷ (nat_le MOST_MAPPINGS (length p.mappings), MappingsFull)
    ∷ (is_none (mapping_place p (pages_for len)), NoRoom)
    ∷ []) e in
    (tests.0, tests.1.1.1.0)

-- the arguments of a mapping that is not bad
pub record IsGoodMapping (files : List File) (len protection flags n : ℕ) : Type 0 where
  pub some : len ≢ 0
  pub short : len ≤ LONGEST_MAPPING
  pub asks : protection ≢ 0
  pub few : protection ≤ 7
  pub flagged : (flags == 1 || flags == 2) ≡ true
  pub there : is_none (slice_get files n) ≡ false

not_false : (b : Bool) → not b ≡ false → b ≡ true
not_false true e = refl
not_false false e = cc

pub good_mapping : (files : List File) (len protection flags n : ℕ) → is_bad_mapping files len protection flags n ≡ false
    → IsGoodMapping files len protection flags n
good_mapping files len protection flags n e =
    let sixth = or_parts (len == 0 || nat_lt LONGEST_MAPPING len || protection == 0 || nat_lt 7 protection
    || not (flags == 1 || flags == 2)) (is_none (slice_get files n)) e in
    let fifth = or_parts (len == 0 || nat_lt LONGEST_MAPPING len || protection == 0 || nat_lt 7 protection) (not (flags == 1 || flags == 2)) sixth.0 in
    let fourth = or_parts (len == 0 || nat_lt LONGEST_MAPPING len || protection == 0) (nat_lt 7 protection) fifth.0 in
    let third = or_parts (len == 0 || nat_lt LONGEST_MAPPING len) (protection == 0) fourth.0 in
    let second = or_parts (len == 0) (nat_lt LONGEST_MAPPING len) third.0 in
    record {
      some = eqb-false len 0 second.0;
      short = ltb-false LONGEST_MAPPING len second.1;
      asks = eqb-false protection 0 third.1;
      few = ltb-false 7 protection fourth.1;
      flagged = not_false (flags == 1 || flags == 2) fifth.1;
      there = sixth.1;
    }

not_guard : (b : Bool) → is_guard_kind (cond b shared_mapping private_mapping) ≡ false
not_guard true = refl
not_guard false = refl

asks_some : (n : ℕ) → n ≢ 0 → n ≤ 7 → ((asks_read n || asks_write n) || (asks_execute n && not (asks_write n))) ≡ true
asks_some zero some few = absurd (some refl)
asks_some (suc zero) some few = refl
asks_some (suc (suc zero)) some few = refl
asks_some (suc (suc (suc zero))) some few = refl
asks_some (suc (suc (suc (suc zero)))) some few = refl
asks_some (suc (suc (suc (suc (suc zero))))) some few = refl
asks_some (suc (suc (suc (suc (suc (suc zero)))))) some few = refl
asks_some (suc (suc (suc (suc (suc (suc (suc zero))))))) some few = refl
asks_some (suc (suc (suc (suc (suc (suc (suc (suc n)))))))) some few = absurd (omega (arith, few))

-- a mapping that is not bad can have leaves, and its bytes are in reach (`IsMapping`)
pub new_mapping : (files : List File) (len protection flags n first : ℕ) → is_bad_mapping files len protection flags n ≡ false
    → IsMapping (mapping_of first (pages_for len) protection flags n)
new_mapping files len protection flags n first e =
    let good = good_mapping files len protection flags n e in
    record {
      leaves = rw (not_guard (flags == 1)) (asks_some protection good.asks good.few);
      reach = omega (arith, good.short);
    }

-- ---- the place of a mapping

-- every number of the list passes the test; then the greatest does
AllPass : (ℕ → Bool) → List ℕ → Type 0
AllPass f [] = Unit {0}
AllPass f (n ∷ ns) = (f n ≡ true) × AllPass f ns

filtered_pass : (f : ℕ → Bool) (ns : List ℕ) → AllPass f (filter f ns)
unfolding AllPass
filtered_pass f [] = tt
filtered_pass f (n ∷ ns) =
    elim (f n) as (λ b. f n ≡ b
    → AllPass f (cond b (n ∷ filter f ns) (filter f ns))) [ true ↦ λ t. (t, filtered_pass f ns) | false ↦ λ _. filtered_pass f ns ] refl

max_passes : (f : ℕ → Bool) (a b : ℕ) → f a ≡ true → f b ≡ true → f (max a b) ≡ true
max_passes f a b g h = elim (cases_lt a b) [
  | inl lt ↦ let is : max a b ≡ b = omega arith in ap f is ∙ h
  | inr le ↦ let is : max a b ≡ a = omega arith in ap f is ∙ g
]

fold_passes : (f : ℕ → Bool) (n : ℕ) (ns : List ℕ) → f n ≡ true → AllPass f ns → f (fold max n ns) ≡ true
unfolding AllPass
fold_passes f n [] h all = h
fold_passes f n (m ∷ ns) h all = fold_passes f (max n m) ns (max_passes f n m h all.0) all.1

greatest_passes : (f : ℕ → Bool) (a : ℕ) (ns : List ℕ) → AllPass f ns → greatest ns ≡ Some a → f a ≡ true
unfolding AllPass
greatest_passes f a [] all e = cc
greatest_passes f a (n ∷ ns) all e = ap f (sym (same_Some (fold max n ns) a e)) ∙ fold_passes f n ns all.0 all.1

-- the mapping fits at its place
pub place_fits : (p : Process) (pages first : ℕ) → mapping_place p pages ≡ Some first → fits_at p pages first ≡ true
place_fits p pages first e =
    greatest_passes (fits_at p pages) first (filter (fits_at p pages) (places p pages)) (filtered_pass (fits_at p pages) (places p pages)) e
