-- Lemmas: the test of a flag of a page table entry by `&` is the test of its bit, for R, W, X and U.
use Rattle.std.proofs.Common.{◌≡◌, ℕ}
use Rattle.sv39_entry.specs.Address.{has}
use Rattle.sv39_entry.specs.Flags.{has_flag_is}
use Rattle.sv39_entry.specs.Word.{has_flag}

pub flag1 : (n : ℕ) → has_flag n 2 ≡ has n 1
flag1 n = has_flag_is n 1

pub flag2 : (n : ℕ) → has_flag n 4 ≡ has n 2
flag2 n = has_flag_is n 2

pub flag3 : (n : ℕ) → has_flag n 8 ≡ has n 3
flag3 n = has_flag_is n 3

pub flag4 : (n : ℕ) → has_flag n 16 ≡ has n 4
flag4 n = has_flag_is n 4

pub ruleset flags = (flag1, flag2, flag3, flag4)
