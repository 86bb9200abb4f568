use Rattle.std.proofs.Common.{◌≡◌, ◌+◌, ◌-◌, ◌<◌, ℕ, [], ◌++◌, length, drop, ap, sym, ◌∙◌, arith}
use Rattle.std.proofs.lemmas.Bool.{eqb-true, eqb-false}
use Rattle.std.proofs.lemmas.List.{nil_from_length}
use Rattle.std.proofs.lemmas.List.Sums.{prefix_len-le-length}
use Rattle.script_language.specs.Lines as words
use Rattle.script_reader.proofs.Cutting.{blanks_first, field_cut}
use Rattle.script_reader.proofs.lines.first_field.Goals as goal

pub split_at-requires : goal.split_at-requires
split_at-requires c = omega (arith, prefix_len-le-length words.is_blank c.args.line.now)

pub returns-then-is_empty-clause-field : goal.returns-then-is_empty-clause-field
returns-then-is_empty-clause-field c =
    let rest = c.split_at.result.1.now in
    let none : rest ≡ [] = nil_from_length rest (eqb-true _ _ (sym c.is_empty.ensures ∙ c.if-is_empty.true)) in
    blanks_first c.args.line.now ∙ ap (λ (n : ℕ). words.fields_of (drop n c.args.line.now)) (sym c.blank_len.ensures) ∙ ap words.fields_of (sym c.split_at.ensures.back ∙ none)

pub split_at-requires-2 : goal.split_at-requires-2
split_at-requires-2 c =
    let rest = c.split_at.result.1.now in
    let some : 0 < length rest = omega (arith, eqb-false (length rest) 0 (sym c.is_empty.ensures ∙ c.if-is_empty.false)) in
    let cut = field_cut c.args.line.now rest c.field_len.result (c.split_at.ensures.back ∙ ap (λ (n : ℕ). drop n c.args.line.now) c.blank_len.ensures) some c.field_len.ensures in
    cut.2

pub returns-clause-field : goal.returns-clause-field
returns-clause-field c =
    let rest = c.split_at.result.1.now in
    let some : 0 < length rest = omega (arith, eqb-false (length rest) 0 (sym c.is_empty.ensures ∙ c.if-is_empty.false)) in
    let cut = field_cut c.args.line.now rest c.field_len.result (c.split_at.ensures.back ∙ ap (λ (n : ℕ). drop n c.args.line.now) c.blank_len.ensures) some c.field_len.ensures in
    rw (c.split_at-2.ensures.front, c.split_at-2.ensures.back) cut.0

pub returns-clause-less : goal.returns-clause-less
returns-clause-less c =
    let rest = c.split_at.result.1.now in
    let some : 0 < length rest = omega (arith, eqb-false (length rest) 0 (sym c.is_empty.ensures ∙ c.if-is_empty.false)) in
    let cut = field_cut c.args.line.now rest c.field_len.result (c.split_at.ensures.back ∙ ap (λ (n : ℕ). drop n c.args.line.now) c.blank_len.ensures) some c.field_len.ensures in
    omega (arith, cut.1, c.split_at-2.ensures.back_len, c.split_at.ensures.back_len)

pub returns-clause-place : goal.returns-clause-place
returns-clause-place c =
    let line = c.args.line.now in
    let found = c.split_at-2.result.0.now ++ c.split_at-2.result.1.now in
    let whole : c.split_at.result.1.now ≡ found = c.split_at-2.ensures.by_index.0 in
    let long : length found + c.blank_len.result ≡ length line = ap (λ xs. length xs + c.blank_len.result) (sym whole) ∙ c.split_at.ensures.back_len in
    let front : c.blank_len.result ≡ length line - length found = omega arith in
    sym whole ∙ c.split_at.ensures.back ∙ ap (λ (n : ℕ). drop n line) front
