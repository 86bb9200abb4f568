-- Lemmas for the loops over all mappings of a process: each whole mapping is a run of the process, and the page writes of
-- the mappings before number i are none, grow by those of one mapping, and are all in the end.
use Rattle.std.proofs.Common.{◌≡◌, ℕ, zero, suc, ◌+◌, ◌<◌, ◌≤◌, refl, ap, sym, subst, ◌∙◌, inr, arith, List, [], ◌∷◌, ◌++◌, Some, length, map, take}
use Rattle.std.specs.Prelude.{flat_map, slice_get}
use Rattle.std.proofs.lemmas.List.{append-nil, append_assoc, length-append, length-map, take_all}
use Rattle.std.proofs.lemmas.Option.{same_Some}
use Rattle.address_space.specs.Layouts.{LaysOut, Layout, region_of}
use Rattle.address_space.specs.declared.region.Region.{Region as CodeRegion}
use Rattle.mmap_regions.specs.Runs.{all_of, IsRunOf}
use Rattle.mmap_regions.proofs.Places.{row_get}
use Rattle.process_model.specs.Bytes.{pages_for}
use Rattle.process_model.specs.Order.{EachRegion, HasOrder, IsMapping, Row}
use Rattle.process_model.specs.PageMoves.{all_moves, mapping_moves, PageMove}
use Rattle.process_model.proofs.PageRegions.{behind_heap}
use Rattle.process_model.specs.Process.{Process}
use Rattle.process_model.proofs.RegionRows.{here, holds, not_held, passed}
use Rattle.process_model.specs.Regions.{end_of, Region, region_at}
use Rattle.sv39_entry.specs.Schemes.{trapframe_page}

-- lists, from the front

module _ {A B : Type 0} (f : A → List B) where
  pub taken_on : (xs : List A) (i : ℕ) (x : A) → slice_get xs i ≡ Some x → flat_map f (take (suc i) xs) ≡ flat_map f (take i xs) ++ f x
  taken_on [] i x at = absurd (cc)
  taken_on (y ∷ xs) zero x at = append-nil (f y) ∙ ap f (same_Some y x at)
  taken_on (y ∷ xs) (suc i) x at = ap (λ ys. f y ++ ys) (taken_on xs i x at) ∙ sym (append_assoc (f y) (flat_map f (take i xs)) (f x))

  pub part_of : (xs : List A) (i : ℕ) → length (flat_map f (take i xs)) ≤ length (flat_map f xs)
  part_of [] zero = omega arith
  part_of [] (suc i) = omega arith
  part_of (x ∷ xs) zero = omega arith
  part_of (x ∷ xs) (suc i) =
      let rest = part_of xs i in
      let left = length-append (f x) (flat_map f (take i xs)) in
      let right = length-append (f x) (flat_map f xs) in
      omega (arith, rest, left, right)

-- a mapping of a row

each_get : (P : Region → Type 0) (ms : List Region) (i : ℕ) (m : Region) → EachRegion P ms → slice_get ms i ≡ Some m → P m
each_get P [] i m all at = absurd (cc)
each_get P (x ∷ ms) zero m all at = subst P (same_Some x m at) all.0
each_get P (x ∷ ms) (suc i) m all at = each_get P ms i m all.1 at

row_region : (low high i n : ℕ) (ms : List Region) (m : Region) → Row 1 low ms high → slice_get ms i ≡ Some m → m.first ≤ n → n < end_of m → region_at ms n ≡ Some m
row_region low high i n [] m row at from to = absurd (cc)
row_region low high zero n (x ∷ ms) m row at from to =
    let is = same_Some x m at in
    here x ms n (rw is (holds m n from to)) ∙ at
row_region low high (suc i) n (x ∷ ms) m row at from to =
    let behind = row_get (end_of x) high i ms m row.2 at in
    passed x ms n (not_held x n (inr (omega (arith, behind.0, from)))) ∙ row_region (end_of x) high i n ms m row.2 at from to

-- of a process

module _ (p : Process) (order : HasOrder 0 p) where
  pub whole_run : (i : ℕ) (m : Region) → slice_get p.mappings i ≡ Some m → IsRunOf p (all_of m)
  whole_run i m at =
      let within = row_get (pages_for p.size) (trapframe_page p.scheme) i p.mappings m order.above at in
      record {
        mapping = each_get IsMapping p.mappings i m order.mapped at;
        from = omega arith;
        order = omega arith;
        to = omega arith;
        low = within.1;
        alone = λ n from to. behind_heap 0 p n order (omega (arith, within.0, from)) ∙ row_region (pages_for p.size) (trapframe_page p.scheme) i n p.mappings m order.above at from to;
      }

-- the mappings before number i
module _ (p : Process) where
  abbrev pub moves_before : ℕ → List PageMove
  moves_before i = flat_map (mapping_moves p) (take i p.mappings)

  pub none_before : moves_before 0 ≡ []
  none_before = refl

  pub one_further : (i : ℕ) (m : Region) → slice_get p.mappings i ≡ Some m → moves_before (i + 1) ≡ moves_before i ++ mapping_moves p m
  one_further i m at = ap moves_before next ∙ taken_on (mapping_moves p) p.mappings i m at
    where
      next : i + 1 ≡ suc i
      next = omega arith

  pub all_before : (i : ℕ) → length p.mappings ≤ i → moves_before i ≡ all_moves p
  all_before i past = ap (flat_map (mapping_moves p)) (take_all i p.mappings past)

  pub before_all : (i : ℕ) → length (moves_before i) ≤ length (all_moves p)
  before_all i = part_of (mapping_moves p) p.mappings i

  pub one_of_all : (i : ℕ) (m : Region) → slice_get p.mappings i ≡ Some m → length (moves_before i) + length (mapping_moves p m) ≤ length (all_moves p)
  one_of_all i m at =
      let all = before_all (i + 1) in
      let one = ap length (one_further i m at) ∙ length-append (moves_before i) (mapping_moves p m) in
      omega (arith, all, one)

-- the mappings that code has, at two times
module _ (l : Layout) (rs old : List CodeRegion) (is : map region_of rs ≡ l.mappings) (was : map region_of old ≡ l.mappings) where
  pub still_within : (i : ℕ) → i < length old → i < length rs
  still_within i less =
      let now = length-map rs region_of in
      let before = length-map old region_of in
      let same = ap length (is ∙ sym was) in
      omega (arith, now, before, same, less)

module _ (p : Process) (l : Layout) (rs : List CodeRegion) (is : map region_of rs ≡ l.mappings) (lays : LaysOut l p) where
  pub as_many : length rs ≡ length p.mappings
  as_many = sym (length-map rs region_of) ∙ ap length (is ∙ sym lays.mappings)
