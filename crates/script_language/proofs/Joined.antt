-- Lemmas for `put_bytes`, two digits for each byte: the digits of the first bytes, followed by those of the next, are the
-- digits of one byte more; and the front of a list after two digits were set in it.
use Rattle.std.proofs.Common.{◌≡◌, ℕ, ◌+◌, ◌*◌, ◌/◌, ◌%◌, ◌<◌, List, [], ◌∷◌, ◌++◌, length, length-set, get_or, set, take, sym, ap, ◌∙◌, append_assoc, arith}
use Rattle.std.specs.List.{flat_map}
use Rattle.std.proofs.lemmas.List.{take_more, take_more_set, flat_map_more}
use Rattle.script_language.specs.Words.{two_digits}

one_more : (bytes : List ℕ) (i : ℕ) → i < length bytes → flat_map two_digits (take i bytes) ++ two_digits (get_or bytes i 0) ≡ flat_map two_digits (take (i + 1) bytes)
one_more bytes i lt = flat_map_more two_digits [] (take i bytes) (get_or bytes i 0) ∙ ap (flat_map two_digits) (sym (take_more bytes i 0 lt))

two_more : (ds : List ℕ) (n x y : ℕ) → n + 1 < length ds → take (n + 1 + 1) (set (set ds n x) (n + 1) y) ≡ take n ds ++ x ∷ y ∷ []
two_more ds n x y lt =
    take_more_set (set ds n x) (n + 1) y (omega (arith, lt, length-set ds n x))
    ∙ ap (λ (l : List ℕ). l ++ y ∷ []) (take_more_set ds n x (omega (arith, lt)))
    ∙ append_assoc (take n ds) (x ∷ []) (y ∷ [])
