-- Lemmas on the pieces of a field, which colons separate: the first piece and those after its colon; and a field of five
-- pieces or more is no segment of an `image` line.
use Rattle.std.proofs.Common.{◌≡◌, ℕ, suc, ◌+◌, Bool, true, false, not, cond, List, [], ◌∷◌, length, ◌≤◌, take, drop, refl, ap, arith, None}
use Rattle.std.specs.List.{position_or_len, onto_first}
use Rattle.script_language.specs.Fields.{segment_in}
use Rattle.script_language.specs.Lines.{is_colon, pieces_of}

-- the pieces after one that ends where this begins
abbrev pub pieces_after : List ℕ → List (List ℕ)
pieces_after [] = []
pieces_after (b ∷ rest) = pieces_of rest

piece_step : (b : ℕ) (field : List ℕ) (v : Bool) (n : ℕ) → onto_first b (pieces_of field) ≡ (b ∷ take n field) ∷ pieces_after (drop n field)
    → cond v ([] ∷ pieces_of field) (onto_first b (pieces_of field)) ≡ take (cond (not v) (1 + n) 0) (b ∷ field) ∷ pieces_after (drop (cond (not v) (1 + n) 0) (b ∷ field))
piece_step b field true n e = refl
piece_step b field false n e = let one : 1 + n ≡ suc n = omega arith in rw one e

-- the first piece ends where the first colon stands, or with the field
pub piece_first : (field : List ℕ) → pieces_of field ≡ take (position_or_len is_colon field) field ∷ pieces_after (drop (position_or_len is_colon field) field)
piece_first [] = refl
piece_first (b ∷ field) = piece_step b field (is_colon b) (position_or_len is_colon field) (ap (onto_first b) (piece_first field))

-- where a colon stands, the pieces after it follow
pub behind_colon : (rest : List ℕ) → 1 ≤ length rest → pieces_after rest ≡ pieces_of (drop 1 rest)
behind_colon [] some = absurd (omega arith)
behind_colon (b ∷ rest) some = refl

-- a fifth piece is one too many
pub five_pieces : (field r s t u a b c d : List ℕ) → pieces_of field ≡ a ∷ pieces_of r → pieces_of r ≡ b ∷ pieces_of s → pieces_of s ≡ c ∷ pieces_of t → pieces_of t ≡ d ∷ pieces_of u
    → segment_in (pieces_of field) ≡ None
five_pieces field r s t u a b c d i j k l = rw (i, j, k, l, piece_first u) refl
