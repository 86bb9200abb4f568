-- Lemma: the segments of an accepted image are in ascending order, apart, each with a page at least, and leave room for
-- guard and stack below the trapframe (`IsPlaced`).
use Rattle.std.proofs.Common.{◌≡◌, ℕ, Bool, true, false, not, ◌+◌, ◌%◌, ◌<◌, ◌≤◌, ◌&&◌, refl, sym, subst, arith, List, [], ◌∷◌, ◌++◌, Option, None, Some, length}
use Rattle.std.specs.Prelude.{Result, Ok, Err, fold, map, if◌then◌else◌, nat_lt, nat_le, ◌==◌, ◌^◌}
use Rattle.std.proofs.lemmas.Bool.{not-false, eqb-true, ltb-true, ltb-false}
use Rattle.sv39_entry.specs.declared.scheme.Scheme.{Scheme}
use Rattle.process_model.specs.Images.{LoadSegment, ProgramHeader, outside, passed_over, load, has_pages, end_page, end_of_loads, load_fault, with_load, unless_faulty, next_judged, at_least_one, all_judged, headers_from, field, file_fault, loads_unless, elf_loads, load_of, segment_loads, image_loads}
use Rattle.process_model.specs.Order.{InRow, IsPlaced, StandsAt}
use Rattle.sv39_entry.specs.Address.{page_of}
use Rattle.sv39_entry.specs.Schemes.{of_scheme, trapframe_page}
use Rattle.process_model.specs.declared.image.BadImage.{BadImage}
use Rattle.process_model.specs.declared.image.BadImage.TheVariants as part
use Rattle.process_model.specs.declared.image.Image.{Image}
use Rattle.process_model.specs.declared.image.Image.TheVariants.{Elf, Segments}
use Rattle.process_model.proofs.GrantLaws.{none_true}
use Rattle.process_model.specs.declared.limits.TheConstants.{GUARD_PAGES, MOST_SEGMENTS, STACK_PAGES}

row_more : (low : ℕ) (ls : List LoadSegment) (l : LoadSegment) → InRow low ls → StandsAt (end_of_loads low ls) l → InRow low (ls ++ l ∷ [])
row_more low [] l row at = (at, tt)
row_more low (k ∷ ls) l row at = (row.0, row_more (end_page k) ls l row.1 at)

end_more : (low : ℕ) (ls : List LoadSegment) (l : LoadSegment) → end_of_loads low (ls ++ l ∷ []) ≡ end_page l
end_more low [] l = refl
end_more low (k ∷ ls) l = end_more (end_page k) ls l

right_false : (a b : Bool) → a ≡ true → (a && b) ≡ false → b ≡ false
right_false true b h e = e
right_false false b h e = absurd cc

load_placed : (z : Scheme) (before : List LoadSegment) (l : LoadSegment) → load_fault z before l ≡ None → has_pages l ≡ true → IsPlaced z before → IsPlaced z (before ++ l ∷ [])
load_placed z before l none has is =
    let tests = none_true (
    (nat_lt l.memory_size l.file_size, part.Sizes)
    ∷ (nat_le (2 ^ 64) (l.address + l.memory_size), part.Wraps)
    ∷ (not (l.address % 4096 == 0), part.Align)
    ∷ (has_pages l && not l.inside, part.Contents)
    ∷ (has_pages l && nat_lt (trapframe_page z) (end_page l + (GUARD_PAGES + STACK_PAGES)), part.TooHigh)
    ∷ (has_pages l && nat_lt (page_of l.address) (end_of_loads 0 before), part.Order)
    ∷ (has_pages l && nat_le MOST_SEGMENTS (length before), part.TooMany)
    ∷ []) none in
    let aligned : l.address % 4096 ≡ 0 = eqb-true (l.address % 4096) 0 (not-false (l.address % 4096 == 0) tests.1.1.0) in
    let below : end_page l + (GUARD_PAGES + STACK_PAGES) ≤ trapframe_page z = ltb-false (trapframe_page z) (end_page l + (GUARD_PAGES + STACK_PAGES)) (right_false (has_pages l) _ has tests.1.1.1.1.0) in
    let above : end_of_loads 0 before ≤ page_of l.address = ltb-false (page_of l.address) (end_of_loads 0 before) (right_false (has_pages l) _ has tests.1.1.1.1.1.0) in
    let some : 0 < l.memory_size = ltb-true 0 l.memory_size has in
    record {
      row = row_more 0 before l is.row (record { above = above; some = omega (some, arith); end = omega (aligned, arith) });
      below = subst (λ n. n + (GUARD_PAGES + STACK_PAGES) ≤ trapframe_page z) (sym (end_more 0 before l)) below;
    }

-- of a result, where there is one
abbrev pub IfPlaced : Scheme → Result (List LoadSegment) BadImage → Type 0
IfPlaced z (Ok ls) = IsPlaced z ls
IfPlaced z (Err e) = Unit {0}

with_load_placed : (z : Scheme) (before : List LoadSegment) (l : LoadSegment) → load_fault z before l ≡ None → IsPlaced z before → IsPlaced z (with_load before l)
with_load_placed z before l none is = elim (has_pages l) as (λ b. has_pages l ≡ b → IsPlaced z (if b then before ++ l ∷ [] else before)) [
  | true ↦ λ has. load_placed z before l none has is
  | false ↦ λ has. is
] refl

unless_placed : (z : Scheme) (before : List LoadSegment) (l : LoadSegment) (o : Option BadImage) → load_fault z before l ≡ o → IsPlaced z before → IfPlaced z (unless_faulty before l o)
unless_placed z before l (Some e) is k = tt
unless_placed z before l None is k = with_load_placed z before l is k

next_placed : (z : Scheme) (r : Result (List LoadSegment) BadImage) (h : ProgramHeader) → IfPlaced z r → IfPlaced z (next_judged z r h)
next_placed z (Err e) h k = tt
next_placed z (Ok before) outside k = tt
next_placed z (Ok before) passed_over k = k
next_placed z (Ok before) (load l) k = unless_placed z before l _ refl k

fold_placed : (z : Scheme) (hs : List ProgramHeader) (r : Result (List LoadSegment) BadImage) → IfPlaced z r → IfPlaced z (fold (next_judged z) r hs)
fold_placed z [] r k = k
fold_placed z (h ∷ hs) r k = fold_placed z hs (next_judged z r h) (next_placed z r h k)

one_placed : (z : Scheme) (r : Result (List LoadSegment) BadImage) → IfPlaced z r → IfPlaced z (at_least_one r)
one_placed z (Ok []) k = tt
one_placed z (Ok (l ∷ ls)) k = k
one_placed z (Err e) k = tt

judged_placed : (z : Scheme) (hs : List ProgramHeader) → IfPlaced z (all_judged z hs)
judged_placed z hs = one_placed z _ (fold_placed z hs (Ok []) (record { row = tt; below = let facts = of_scheme z in omega (arith, facts) }))

elf_placed : (z : Scheme) (bytes : List ℕ) (o : Option BadImage) → IfPlaced z (loads_unless z bytes o)
elf_placed z bytes (Some e) = tt
elf_placed z bytes None = judged_placed z (headers_from bytes (field bytes 32 8) (field bytes 56 2))

image_placed : (z : Scheme) (image : Image) → IfPlaced z (image_loads z image)
unfolding elf_loads segment_loads
image_placed z (Elf bytes) = elf_placed z bytes.now (file_fault bytes.now)
image_placed z (Segments segments) = judged_placed z (map load_of segments.now)

pub accepted_is_placed : (z : Scheme) (image : Image) (ls : List LoadSegment) → image_loads z image ≡ Ok ls → IsPlaced z ls
accepted_is_placed z image ls e = subst (IfPlaced z) e (image_placed z image)
