-- Lemmas: how long the first piece of a field is, and what follows its colon.
use Rattle.std.proofs.Common.{◌≡◌, ℕ, ◌+◌, ◌≤◌, ◌<◌, List, [], ◌∷◌, length, Option, Some, None, refl, ap, arith, inl, inr}
use Rattle.std.specs.Prelude.{MatchOption}
use Rattle.std.specs.Borrow.{Bor}
use Rattle.std.specs.List.{onto_first}
use Rattle.std.proofs.lemmas.Bool.{cases_Bool}
use Rattle.script_language.specs.Lines.{is_colon, pieces_of}

-- the bytes of these pieces, and one more for each
abbrev spread : List (List ℕ) → ℕ
spread [] = 0
spread (p ∷ ps) = 1 + length p + spread ps

spread_onto : (b : ℕ) (ps : List (List ℕ)) → 0 < spread ps → spread (onto_first b ps) ≡ 1 + spread ps
spread_onto b [] some = absurd (omega arith)
spread_onto b (p ∷ ps) some = omega arith

pieces_spread : (field : List ℕ) → spread (pieces_of field) ≡ 1 + length field
pieces_spread [] = refl
pieces_spread (b ∷ field) =
    let more = pieces_spread field in
    elim (cases_Bool (is_colon b)) [
      | inl is ↦ rw is (omega arith)
      | inr isnt ↦ rw isnt (let onto = spread_onto b (pieces_of field) (omega arith) in omega arith)
    ]

pub first_alone : (field piece : List ℕ) → pieces_of field ≡ piece ∷ [] → length piece ≡ length field
first_alone field piece e =
    let all = pieces_spread field in
    let same : spread (pieces_of field) ≡ spread (piece ∷ []) = ap spread e in
    omega arith

pub first_and_rest : (field piece rest : List ℕ) → pieces_of field ≡ piece ∷ pieces_of rest → length piece + 1 + length rest ≡ length field
first_and_rest field piece rest e =
    let all = pieces_spread field in
    let left = pieces_spread rest in
    let same : spread (pieces_of field) ≡ spread (piece ∷ pieces_of rest) = ap spread e in
    omega arith

pub first_fits : (field piece : List ℕ) (rest : Option (Bor (List ℕ))) → MatchOption rest (pieces_of field ≡ piece ∷ []) (λ r. pieces_of field ≡ piece ∷ pieces_of r.now) → length piece ≤ length field
first_fits field piece None e = let same = first_alone field piece e in omega arith
first_fits field piece (Some r) e = let same = first_and_rest field piece r.now e in omega arith
