-- Lemmas: the fields of the word in a hart's satp.
use Rattle.std.proofs.Common.{◌≡◌, ℕ, ◌^◌, ◌<◌, refl, arith, Some}
use Rattle.sv39_entry.specs.Frame.{ppn_of}
use Rattle.sv39_entry.specs.Satp.{asid, mode, root_ppn, satp_word, scheme_of}
use Rattle.sv39_entry.specs.Schemes.{mode_of}
use Rattle.sv39_entry.specs.declared.scheme.Scheme.{Scheme}
use Rattle.sv39_entry.specs.declared.scheme.Scheme.TheVariants.{Sv39, Sv48}

module _ (n root : ℕ) (few : n < 2 ^ 16) (low : root < 2 ^ 16) where
  mode_is : (m : ℕ) → mode (satp_word m n root) ≡ m
  mode_is m = omega (arith, few, low)

  pub asid_is : (m : ℕ) → asid (satp_word m n root) ≡ n
  asid_is m = omega (arith, few, low)

  pub root_is : (m : ℕ) → root_ppn (satp_word m n root) ≡ ppn_of root
  root_is m = omega (arith, few, low)

  pub scheme_is : (s : Scheme) → scheme_of (satp_word (mode_of s) n root) ≡ Some s
  scheme_is Sv39 = let same : mode (satp_word 8 n root) ≡ 8 = mode_is 8 in rw same refl
  scheme_is Sv48 = let same : mode (satp_word 9 n root) ≡ 9 = mode_is 9 in rw same refl
