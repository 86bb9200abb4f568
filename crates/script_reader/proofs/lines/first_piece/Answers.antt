use Rattle.std.proofs.Common.{◌≡◌, ◌∷◌, ◌-◌, ℕ, List, [], length, take, drop, not, sym, ap, subst, ◌∙◌, arith}
use Rattle.std.proofs.lemmas.List.{nil_from_length, take_all, length-drop}
use Rattle.std.proofs.lemmas.List.Sums.{prefix_len-le-length}
use Rattle.script_language.specs.Lines as words
use Rattle.script_reader.proofs.Colons.{pieces_after, piece_first, behind_colon}
use Rattle.script_reader.proofs.lines.first_piece.Goals as goal

pub split_at-requires : goal.split_at-requires
split_at-requires c = omega (arith, prefix_len-le-length (λ b. not (words.is_colon b)) c.args.field.now)

pub returns-in-empty : goal.returns-in-empty
returns-in-empty c =
    let field = c.args.field.now in
    let rest = c.split_at.result.1.now in
    let P : ℕ → Type 0 = λ n. words.pieces_of field ≡ take n field ∷ pieces_after (drop n field) in
    let here : words.pieces_of field ≡ take c.piece_len.result field ∷ pieces_after (drop c.piece_len.result field) = subst P (sym c.piece_len.ensures) (piece_first field) in
    let none : rest ≡ [] = nil_from_length rest (omega (arith, c.in-empty.len_below)) in
    let after : pieces_after (drop c.piece_len.result field) ≡ [] = ap pieces_after (sym c.split_at.ensures.back ∙ none) in
    here ∙ ap (λ (ps : List (List ℕ)). take c.piece_len.result field ∷ ps) after ∙ ap (λ (p : List ℕ). p ∷ []) (sym c.split_at.ensures.front)

pub returns-in-len1-up : goal.returns-in-len1-up
returns-in-len1-up c =
    let field = c.args.field.now in
    let rest = c.split_at.result.1.now in
    let P : ℕ → Type 0 = λ n. words.pieces_of field ≡ take n field ∷ pieces_after (drop n field) in
    let here : words.pieces_of field ≡ take c.piece_len.result field ∷ pieces_after (drop c.piece_len.result field) = subst P (sym c.piece_len.ensures) (piece_first field) in
    let whole : take (length rest - 1) (drop 1 rest) ≡ drop 1 rest = take_all _ _ (omega (arith, length-drop 1 rest)) in
    let after : pieces_after (drop c.piece_len.result field) ≡ words.pieces_of (drop 1 rest) = ap pieces_after (sym c.split_at.ensures.back) ∙ behind_colon rest c.in-len1-up.len_at_least in
    rw (whole, c.split_at.ensures.front) (here ∙ ap (λ (ps : List (List ℕ)). take c.piece_len.result field ∷ ps) after)
