-- Lemma about a number of 16 hexadecimal digits: what `{:016x}` writes is the digits, after as many zeros as are missing.
use Rattle.std.proofs.Common.{◌≡◌, ℕ, ◌-◌, ◌^◌, false, List, [], ◌++◌, length, replicate, arith}
use Rattle.std.proofs.lemmas.List.{append-nil}
use Rattle.std.specs.Fmt.{char_count, format_spec, padded_integral}

pub filled : (ds : List ℕ) → padded_integral (format_spec 32 0 4 16 (2 ^ 64 - 1)) false [] ds ≡ replicate (16 - length ds) 48 ++ ds
unfolding padded_integral char_count
filled ds =
    let zeros : 16 - length ds - 0 - 0 ≡ 16 - length ds = omega arith in
    rw (zeros, append-nil)
