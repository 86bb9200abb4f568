-- Lemmas on checking segments one after another: the loops of `read_image` and `from_segments` follow the model header by
-- header; a segment that fails a check ends it; one that passes, if it has pages, is kept behind those before it, in order
-- (`AreJudged`).
use Rattle.std.proofs.Common.{◌≡◌, ℕ, zero, suc, ◌+◌, ◌<◌, ◌≤◌, Bool, true, false, not, ◌&&◌, length, List, [], ◌∷◌, ◌++◌, drop, fold, refl, ap, sym, ◌∙◌, Some, None, if◌then◌else◌, Result, Ok, Err, arith}
use Rattle.std.specs.Prelude.{nat_le, slice_get, ◌==◌}
use Rattle.std.proofs.lemmas.Bool.{ltb-false}
use Rattle.std.proofs.lemmas.List.{length-append}
use Rattle.std.proofs.lemmas.Option.{same_Some}
use Rattle.process_model.specs.Bytes.{first_true}
use Rattle.process_model.specs.Images as model
use Rattle.process_model.specs.Images.{LoadSegment, ProgramHeader, end_of_loads, end_page, has_pages, judged, load, load_checks, load_fault, next_judged, unless_faulty}
use Rattle.process_model.specs.declared.image.BadImage.{BadImage}
use Rattle.process_model.specs.declared.image.BadImage.TheVariants as part
use Rattle.exec_segments.specs.Loads.{AreInOrder, AreJudged, IsLoad, loads_after}
use Rattle.sv39_entry.specs.declared.scheme.Scheme.{Scheme}

abbrev pub judge : Scheme → Result (List LoadSegment) BadImage → List ProgramHeader → Result (List LoadSegment) BadImage
judge z r headers = fold (next_judged z) r headers

-- a fault stays
pub fault_stays : (z : Scheme) (e : BadImage) (headers : List ProgramHeader) → judge z (Err e) headers ≡ Err e
fault_stays z e [] = refl
fault_stays z e (h ∷ headers) = fault_stays z e headers

-- the next one is judged
next : (z : Scheme) (headers : List ProgramHeader) (i : ℕ) (h : ProgramHeader) (r : Result (List LoadSegment) BadImage) → slice_get headers i ≡ Some h
    → judge z r (drop i headers) ≡ judge z (next_judged z r h) (drop (suc i) headers)
next z [] i h r at = absurd (cc)
next z (k ∷ headers) zero h r at = ap (λ x. judge z (next_judged z r x) headers) (same_Some k h at)
next z (k ∷ headers) (suc i) h r at = next z headers i h r at

pub none_left : (z : Scheme) (headers : List ProgramHeader) (i : ℕ) (r : Result (List LoadSegment) BadImage) → length headers ≤ i → judge z r (drop i headers) ≡ r
none_left z [] zero r high = refl
none_left z [] (suc i) r high = refl
none_left z (h ∷ headers) zero r high = absurd (omega arith)
none_left z (h ∷ headers) (suc i) r high = none_left z headers i r (omega arith)

-- those up to one are judged, and then that one
pub forward : (z : Scheme) (headers : List ProgramHeader) (i : ℕ) (h : ProgramHeader) (before : List LoadSegment) (r : Result (List LoadSegment) BadImage) → slice_get headers i ≡ Some h
    → judge z (Ok []) headers ≡ judge z (Ok before) (drop i headers) → judged z before h ≡ r → judge z (Ok []) headers ≡ judge z r (drop (i + 1) headers)
forward z headers i h before r at all one =
    let one_on : i + 1 ≡ suc i = omega arith in
    all ∙ next z headers i h (Ok before) at ∙ ap (λ x. judge z x (drop (suc i) headers)) one ∙ ap (λ n. judge z r (drop n headers)) (sym one_on)

-- after one more was judged
module _ (z : Scheme) (headers : List ProgramHeader) (i : ℕ) (h : ProgramHeader) (before after : List LoadSegment) (r : Result (Unit {0}) BadImage) (at : slice_get headers i ≡ Some h)
    (all : judge z (Ok []) headers ≡ judge z (Ok before) (drop i headers)) (one : judged z before h ≡ loads_after r after) where
  pub stopped : (e : BadImage) → r ≡ Err e → judge z (Ok []) headers ≡ Err e
  stopped e is = forward z headers i h before (Err e) at all (one ∙ ap (λ x. loads_after x after) is) ∙ fault_stays z e (drop (i + 1) headers)

  pub went_on : (u : Unit {0}) → r ≡ Ok u → judge z (Ok []) headers ≡ judge z (Ok after) (drop (i + 1) headers)
  went_on u is = forward z headers i h before (Ok after) at all (one ∙ ap (λ x. loads_after x after) is)

pub all_through : (z : Scheme) (headers : List ProgramHeader) (i : ℕ) (before : List LoadSegment) → length headers ≤ i → judge z (Ok []) headers ≡ judge z (Ok before) (drop i headers) → judge z (Ok []) headers ≡ Ok before
all_through z headers i before end all = all ∙ none_left z headers i (Ok before) end

-- no test of a list holds
abbrev NoneHolds : {A : Type 0} → List (Bool × A) → Type 0
NoneHolds [] = Unit {0}
NoneHolds (t ∷ tests) = (t.0 ≡ false) × NoneHolds tests

none_holds : {A : Type 0} (tests : List (Bool × A)) → first_true tests ≡ None → NoneHolds tests
none_holds [] none = tt
none_holds ((true, x) ∷ tests) none = absurd (cc)
none_holds ((false, x) ∷ tests) none = (refl, none_holds tests none)

and_has : (a b : Bool) → a ≡ true → (a && b) ≡ false → b ≡ false
and_has true b has none = none
and_has false b has none = absurd (cc)

whole : (n : ℕ) → not (n == 0) ≡ false → n ≡ 0
whole n is = grind arith

below : (n : ℕ) → nat_le 16 n ≡ false → n < 16
below n is = grind arith

-- a segment with pages that passes each check
module _ (z : Scheme) (before : List LoadSegment) (l : LoadSegment) (none : load_fault z before l ≡ None) (some : 0 < l.memory_size) where
  has : has_pages l ≡ true
  has = grind arith

  pub is_load : length l.bytes ≤ l.file_size → IsLoad z (end_of_loads 0 before) l
  is_load fits =
      let all = none_holds (load_checks z before l) none in
      record {
        some = some;
        sizes = let small : l.file_size ≤ l.memory_size = ltb-false _ _ all.0 in omega (arith, small, fits);
        aligned = whole _ all.1.1.0;
        high = ltb-false _ _ (and_has _ _ has all.1.1.1.1.0);
        in_order = ltb-false _ _ (and_has _ _ has all.1.1.1.1.1.0);
      }

  pub few : length before < 16
  few = let all = none_holds (load_checks z before l) none in below _ (and_has _ _ has all.1.1.1.1.1.1.0)

-- a segment goes behind others

pub last_behind : (end : ℕ) (ls : List LoadSegment) (l : LoadSegment) → end_of_loads end (ls ++ l ∷ []) ≡ end_page l
last_behind end [] l = refl
last_behind end (k ∷ ls) l = last_behind (end_page k) ls l

pub in_order_behind : (z : Scheme) (end : ℕ) (ls : List LoadSegment) (l : LoadSegment) → AreInOrder z end ls → IsLoad z (end_of_loads end ls) l → AreInOrder z end (ls ++ l ∷ [])
in_order_behind z end [] l ordered is = (is, tt)
in_order_behind z end (k ∷ ls) l ordered is = (ordered.0, in_order_behind z (end_page k) ls l ordered.1 is)

-- what becomes of the segments so far
module _ (z : Scheme) (before : List LoadSegment) (l : LoadSegment) where
  pub refused : (e : BadImage) → load_fault z before l ≡ Some e → judged z before (load l) ≡ Err e
  refused e fault = ap (unless_faulty before l) fault

  module _ (none : load_fault z before l ≡ None) where
    pub kept : 0 < l.memory_size → judged z before (load l) ≡ Ok (before ++ l ∷ [])
    kept some = ap (unless_faulty before l) none ∙ ap (λ b. Ok (if b then before ++ l ∷ [] else before)) (has z before l none some)

    pub left_out : l.memory_size ≡ 0 → judged z before (load l) ≡ Ok before
    left_out empty = ap (unless_faulty before l) none ∙ rw empty refl

    -- they are in order
    pub one_more : (end : ℕ) → AreJudged z before end → 0 < l.memory_size → length l.bytes ≤ l.file_size → AreJudged z (before ++ l ∷ []) (end_page l)
    one_more end are some fits = record {
      few = let longer = length-append before (l ∷ []) in let room = few z before l none some in omega (arith, longer, room);
      in_order = in_order_behind z 0 before l are.in_order (is_load z before l none some fits);
      last = last_behind 0 before l;
    }
