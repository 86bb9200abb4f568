-- Lemmas: a walk finds the same for all addresses of one page; and if a leaf leads one of them to a byte inside the memory,
-- it leads each to one, provided that the frame is inside as a whole or not at all.
use Rattle.std.proofs.Common.{◌≡◌, ℕ, ◌+◌, ◌*◌, ◌/◌, ◌%◌, ◌^◌, true, refl, ◌∙◌, arith}
use Rattle.std.proofs.lemmas.Nat.{mod-pow-add}
use Rattle.sv39_entry.specs.Address.{page_of}
use Rattle.sv39_entry.specs.Schemes.{is_canonical}
use Rattle.sv39_entry.specs.declared.scheme.Scheme.{Scheme}
use Rattle.sv39_entry.specs.declared.scheme.Scheme.TheVariants.{Sv39, Sv48}
use Rattle.table_walk.specs.Memory.{Extent, Memory, has_byte, physical_address}
use Rattle.table_walk.specs.Walk.{Finds}
use Rattle.table_walk.specs.declared.walk.Found.{Found}
use Rattle.table_walk.specs.declared.walk.Found.TheVariants as found
use Rattle.hart_tlb.specs.Outcome.{IsWhole}

module _ (a b : ℕ) (same : page_of a ≡ page_of b) where
  canonical_on_page : (s : Scheme) → is_canonical s a ≡ is_canonical s b
  canonical_on_page Sv39 = let upper : a / 2 ^ 38 ≡ b / 2 ^ 38 = omega arith in rw upper refl
  canonical_on_page Sv48 = let upper : a / 2 ^ 47 ≡ b / 2 ^ 47 = omega arith in rw upper refl

  pub finds_on_page : (s : Scheme) (m : Memory) (root : ℕ) (x : Found) → Finds s m root a x → Finds s m root b x
  finds_on_page s m root (found.Leaf leaf level global) p = rw (canonical_on_page s, same) at p
  finds_on_page s m root found.Outside p = rw (canonical_on_page s, same) at p
  finds_on_page s m root found.NoLeaf p = rw (canonical_on_page s, same) at p

  -- the low bits of a leaf's size, without the offset
  page_low : (n : ℕ) → a % 2 ^ (12 + n) / 4096 ≡ b % 2 ^ (12 + n) / 4096
  page_low n =
      let other : 12 + n ≡ n + 12 = omega arith in
      let of_a = mod-pow-add a n 12 in
      let of_b = mod-pow-add b n 12 in
      rw (other, of_a, of_b, same) (omega arith)

  frame_on_page : (leaf level : ℕ) → physical_address leaf level a / 4096 ≡ physical_address leaf level b / 4096
  frame_on_page leaf level = let low = page_low (9 * level) in omega arith

  pub byte_on_page : (there : Extent) (leaf level : ℕ) → IsWhole there (physical_address leaf level b / 4096)
      → has_byte there (physical_address leaf level a) ≡ true → has_byte there (physical_address leaf level b) ≡ true
  byte_on_page there leaf level whole byte =
      let frame = frame_on_page leaf level in
      whole (physical_address leaf level b % 4096 / 8) (physical_address leaf level a % 4096 / 8) (omega arith) (omega arith) ∙ (rw frame at byte)
