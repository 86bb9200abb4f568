-- Lemmas: the bytes of a store, read back, are the value's lowest.
use Rattle.std.proofs.Common.{◌≡◌, ℕ, zero, suc, ◌+◌, ◌*◌, ◌/◌, ◌%◌, ◌^◌, ◌≤◌, refl, sym, ap, ◌∙◌, arith, List, [], ◌∷◌, ◌++◌, length, take, drop}
use Rattle.std.proofs.lemmas.List.{append_assoc}
use Rattle.std.proofs.lemmas.Nat.{mod-pow-add}
use Rattle.frame_bytes.proofs.Numbers.{number-zero}
use Rattle.frame_bytes.proofs.Writes.{length-low_bytes}
use Rattle.process_model.specs.Bytes.{low_bytes, number, write_bytes}

number_low : (n v : ℕ) → number (low_bytes v n) n ≡ v % 2 ^ (8 * n)
unfolding number low_bytes
number_low zero v = omega arith
number_low (suc n) v =
    let e : 8 * suc n ≡ 8 * n + 8 = omega arith in
    let rest = number_low n (v / 2 ^ 8) in
    let parts = mod-pow-add v (8 * n) 8 in
    rw e (omega (arith, rest, parts))

number_front : (vs rest : List ℕ) → number (vs ++ rest) (length vs) ≡ number vs (length vs)
unfolding number
number_front [] rest = number-zero rest
number_front (v ∷ vs) rest = ap (λ (k : ℕ). v + 2 ^ 8 * k) (number_front vs rest)

drop_front : (n : ℕ) (bs xs : List ℕ) → n ≤ length bs → drop n (take n bs ++ xs) ≡ xs
drop_front zero bs xs low = refl
drop_front (suc n) [] xs low = absurd (omega (arith, low))
drop_front (suc n) (b ∷ bs) xs low = drop_front n bs xs (omega (arith, low))

pub read_back : (bs : List ℕ) (offset value width : ℕ) → offset ≤ length bs → number (drop offset (write_bytes bs offset (low_bytes value width))) width ≡ value % 2 ^ (8 * width)
read_back bs offset value width low =
    let vs = low_bytes value width in
    let long : length vs ≡ width = length-low_bytes value width in
    let rest = drop (offset + length vs) bs in
    let whole : drop offset (write_bytes bs offset vs) ≡ vs ++ rest = ap (drop offset) (append_assoc (take offset bs) vs rest) ∙ drop_front offset bs (vs ++ rest) low in
    ap (λ (xs : List ℕ). number xs width) whole
    ∙ ap (λ (n : ℕ). number (vs ++ rest) n) (sym long) ∙ number_front vs rest ∙ ap (λ (n : ℕ). number vs n) long ∙ number_low width value
