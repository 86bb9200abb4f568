-- Lemmas: for each of the flags V, R, W, X, U, A, D of a page table entry, the test of the flag's value by `&` is the test
-- of its bit; and `flags`, the rule set of these equations for rewriting.
use Rattle.std.proofs.Common.{◌≡◌, ℕ}
use Rattle.sv39_entry.specs.Address.{has}
use Rattle.sv39_entry.specs.Flags.{has_flag_is}
use Rattle.sv39_entry.specs.Word.{has_flag}

pub flag0 : (n : ℕ) → has_flag n 1 ≡ has n 0
flag0 n = has_flag_is n 0

pub flag1 : (n : ℕ) → has_flag n 2 ≡ has n 1
flag1 n = has_flag_is n 1

pub flag2 : (n : ℕ) → has_flag n 4 ≡ has n 2
flag2 n = has_flag_is n 2

pub flag3 : (n : ℕ) → has_flag n 8 ≡ has n 3
flag3 n = has_flag_is n 3

pub flag4 : (n : ℕ) → has_flag n 16 ≡ has n 4
flag4 n = has_flag_is n 4

pub flag6 : (n : ℕ) → has_flag n 64 ≡ has n 6
flag6 n = has_flag_is n 6

pub flag7 : (n : ℕ) → has_flag n 128 ≡ has n 7
flag7 n = has_flag_is n 7

pub ruleset flags = (flag0, flag1, flag2, flag3, flag4, flag6, flag7)
