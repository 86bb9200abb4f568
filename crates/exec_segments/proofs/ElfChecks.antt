-- Lemmas for `read_image`: the model's result (`elf_loads`) for an ELF file that is too long, shorter than 64 bytes, or without
-- the magic number; any other file gets the verdict on its program headers, NoLoad if none loads a page (`judges`).
use Rattle.std.proofs.Common.{◌≡◌, ℕ, ◌<◌, ◌≤◌, true, false, not, List, [], length, refl, sym, ◌∙◌, Ok, Err, arith}
use Rattle.std.specs.Prelude.{nat_lt, ◌==◌}
use Rattle.std.proofs.lemmas.Bool.Decides.{nat_tests}
use Rattle.process_model.specs.Images as model
use Rattle.process_model.specs.declared.image.BadImage.TheVariants as part
use Rattle.exec_segments.proofs.Judged.{judge}
use Rattle.sv39_entry.specs.declared.scheme.Scheme.{Scheme}
use Rattle.process_model.specs.declared.limits.TheConstants.{LONGEST_IMAGE}

below : (n m : ℕ) → n < m → nat_lt n m ≡ true
below n m less = grind (arith, nat_tests)

above : (n m : ℕ) → m ≤ n → nat_lt n m ≡ false
above n m less = grind (arith, nat_tests)

other : (n m : ℕ) → (n ≡ m → ⊥) → not (n == m) ≡ true
other n m apart = grind (arith, nat_tests)

same : (n m : ℕ) → n ≡ m → not (n == m) ≡ false
same n m is = grind (arith, nat_tests)

module _ (z : Scheme) (bytes : List ℕ) where
  pub too_long : LONGEST_IMAGE < length bytes → model.elf_loads z bytes ≡ Err part.TooLong
  unfolding model.elf_loads
  too_long long = rw (below LONGEST_IMAGE (length bytes) long) refl

  module _ (short : length bytes ≤ LONGEST_IMAGE) where
    pub no_header : length bytes < 64 → model.elf_loads z bytes ≡ Err part.Header
    unfolding model.elf_loads
    no_header less = rw (above LONGEST_IMAGE (length bytes) short, below (length bytes) 64 less) refl

    module _ (header : 64 ≤ length bytes) where
      pub no_magic : (model.field bytes 0 4 ≡ model.elf_magic → ⊥) → model.elf_loads z bytes ≡ Err part.Magic
      unfolding model.elf_loads
      no_magic apart = rw (above LONGEST_IMAGE (length bytes) short, above (length bytes) 64 header, other (model.field bytes 0 4) model.elf_magic apart) refl

      -- its program headers are judged
      pub judges : (n table count : ℕ) → n ≡ model.elf_magic → n ≡ model.field bytes 0 4 → table ≡ model.field bytes 32 8 → count ≡ model.field bytes 56 2
          → model.elf_loads z bytes ≡ model.at_least_one (judge z (Ok []) (model.headers_from bytes table count))
      unfolding model.elf_loads
      judges n table count magic first at many =
          rw (above LONGEST_IMAGE (length bytes) short, above (length bytes) 64 header, same (model.field bytes 0 4) model.elf_magic (sym first ∙ magic), at, many) refl
