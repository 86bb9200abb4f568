-- Lemmas: an end of an end of a line is one of the line, and so is what follows bytes in an end; the bytes stand in the line.
use Rattle.std.proofs.Common.{◌≡◌, ℕ, ◌+◌, ◌-◌, ◌≤◌, List, ◌++◌, length, take, drop, ap, sym, ◌∙◌, arith, length-append, length-drop}
use Rattle.std.proofs.lemmas.List.{drop-drop}
use Rattle.std.proofs.Math.Seq.{drop-append_seam, take-append_seam}
use Rattle.line_fields.specs.Columns.{IsEndOf, StandsAt}

-- an end is no longer than its line
pub end_fits : (line end : List ℕ) → IsEndOf line end → length end ≤ length line
end_fits line end e =
    let dropped = length-drop (length line - length end) line in
    let same : length end ≡ length (drop (length line - length end) line) = ap length e in
    omega arith

pub whole_end : (line : List ℕ) → IsEndOf line line
whole_end line =
    let none : length line - length line ≡ 0 = omega arith in
    sym (ap (λ (n : ℕ). drop n line) none)

pub end_of_end : (line rest end : List ℕ) → IsEndOf line rest → IsEndOf rest end → IsEndOf line end
end_of_end line rest end r e =
    let short = end_fits line rest r in
    let shorter = end_fits rest end e in
    let count : (length line - length rest) + (length rest - length end) ≡ length line - length end = omega arith in
    e ∙ ap (λ (xs : List ℕ). drop (length rest - length end) xs) r ∙ drop-drop (length rest - length end) (length line - length rest) line ∙ ap (λ (n : ℕ). drop n line) count

pub end_after : (line bytes after : List ℕ) → IsEndOf line (bytes ++ after) → IsEndOf line after
end_after line bytes after e =
    let both = length-append bytes after in
    let here : after ≡ drop (length bytes) (bytes ++ after) = sym (drop-append_seam bytes after) in
    let count : length bytes ≡ length (bytes ++ after) - length after = omega arith in
    end_of_end line (bytes ++ after) after e (here ∙ ap (λ (n : ℕ). drop n (bytes ++ after)) count)

pub stands : (line bytes after : List ℕ) (column : ℕ) → IsEndOf line (bytes ++ after) → column ≡ length line - length after - length bytes + 1 → StandsAt line bytes column
stands line bytes after column e is =
    let both = length-append bytes after in
    let short = end_fits line (bytes ++ after) e in
    let front : column - 1 ≡ length line - length (bytes ++ after) = omega arith in
    record {
      counted = omega arith;
      there = ap (λ (n : ℕ). take (length bytes) (drop n line)) front ∙ ap (λ (xs : List ℕ). take (length bytes) xs) (sym e) ∙ take-append_seam bytes after;
      inside = omega arith;
    }
