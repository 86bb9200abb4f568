use Rattle.std.proofs.Common.{◌≡◌, ◌∷◌, ◌+◌, ◌-◌, ℕ, [], length, take, drop, not, sym, ap, subst, ◌∙◌, arith}
use Rattle.std.specs.List.{position_or_len}
use Rattle.std.proofs.lemmas.List.Sums.{prefix_len-le-length}
use Rattle.std.proofs.lemmas.List.{nil_from_length, drop_all, take_all, length-drop, drop-drop}
use Rattle.script_language.specs.Lines as words
use Rattle.script_reader.proofs.Cutting.{line_first}
use Rattle.script_reader.proofs.lines.first_line.Goals as goal

pub split_at-requires : goal.split_at-requires
split_at-requires c = omega (arith, prefix_len-le-length (λ b. not (words.is_line_end b)) c.args.text.now)

pub returns-in-empty-clause-line : goal.returns-in-empty-clause-line
returns-in-empty-clause-line c =
    let text = c.args.text.now in
    let n = c.line_len.result in
    let first = line_first text c.requires in
    let at : n ≡ position_or_len words.is_line_end text = c.line_len.ensures in
    let none : c.split_at.result.1.now ≡ [] = nil_from_length _ (omega (arith, c.in-empty.len_below)) in
    let past : drop (n + 1) text ≡ [] = drop_all (n + 1) text (omega (arith, c.split_at.ensures.back_len)) in
    let P : ℕ → Type 0 = λ k. words.raw_lines text ≡ take k text ∷ words.raw_lines (drop (k + 1) text) in
    let here : words.raw_lines text ≡ take n text ∷ words.raw_lines (drop (n + 1) text) = subst P (sym at) first in
    rw (c.split_at.ensures.front, none) (rw past at here)

pub returns-in-len1-up-clause-line : goal.returns-in-len1-up-clause-line
returns-in-len1-up-clause-line c =
    let text = c.args.text.now in
    let n = c.line_len.result in
    let first = line_first text c.requires in
    let at : n ≡ position_or_len words.is_line_end text = c.line_len.ensures in
    let rest = c.split_at.result.1.now in
    let whole : take (length rest - 1) (drop 1 rest) ≡ drop 1 rest = take_all _ _ (omega (arith, length-drop 1 rest)) in
    let after : drop 1 rest ≡ drop (n + 1) text = ap (drop 1) c.split_at.ensures.back ∙ drop-drop 1 n text in
    let P : ℕ → Type 0 = λ k. words.raw_lines text ≡ take k text ∷ words.raw_lines (drop (k + 1) text) in
    rw (whole, after, c.split_at.ensures.front) (subst P (sym at) first)
