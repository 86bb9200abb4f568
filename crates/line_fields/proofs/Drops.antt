-- Lemmas: the element of a list after the first few, and the list after it, from what is left after these.
use Rattle.std.proofs.Common.{◌≡◌, ℕ, zero, suc, ◌+◌, ◌≤◌, List, [], ◌∷◌, length, drop, Some, None, ap, sym, ◌∙◌, arith, length-drop}
use Rattle.std.specs.Prelude.{slice_get}
use Rattle.std.proofs.lemmas.List.{drop-drop}
use Rattle.std.proofs.lemmas.Option.{slice_get_past}

pub none_there : {X : Type 0} (xs : List X) (i n : ℕ) → drop i xs ≡ [] → i ≤ n → slice_get xs n ≡ None
none_there xs i n e le =
    let dropped = length-drop i xs in
    let empty : length (drop i xs) ≡ 0 = ap length e in
    slice_get_past xs n (omega arith)

pub some_there : {X : Type 0} (xs : List X) (i : ℕ) (x : X) (rest : List X) → drop i xs ≡ x ∷ rest → slice_get xs i ≡ Some x
some_there [] zero x rest e = absurd cc
some_there [] (suc i) x rest e = absurd cc
some_there (y ∷ xs) zero x rest e = cc
some_there (y ∷ xs) (suc i) x rest e = some_there xs i x rest e

pub left_after : {X : Type 0} (xs : List X) (i : ℕ) (x : X) (rest : List X) → drop i xs ≡ x ∷ rest → drop (i + 1) xs ≡ rest
left_after xs i x rest e = sym (drop-drop 1 i xs) ∙ ap (drop 1) e
