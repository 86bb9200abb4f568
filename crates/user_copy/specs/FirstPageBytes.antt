-- A law (`is_near`) and its record `IsNear`: how many bytes of a copy lie in the page of its first address, and that the
-- bytes past these begin at the start of a page.
use Rattle.std.proofs.Common.{◌≡◌, ℕ, Bool, false, true, ◌+◌, ◌-◌, ◌%◌, ◌<◌, ◌≤◌, arith, refl}
use Rattle.std.specs.Prelude.{nat_le, if◌then◌else◌}
use Rattle.std.proofs.lemmas.Bool.{leb-false, leb-true}
use Rattle.user_copy.specs.Runs.{near}

-- of n bytes from an address on, `here` lie in the page of the address
pub record IsNear (address n here : ℕ) : Type 0 where
  pub inside : address % 4096 + here ≤ 4096
  pub few : here ≤ n
  -- a copy of at least one byte has one there
  pub some : 0 < n → 0 < here
  -- bytes past these begin at the start of a page
  pub behind : here < n → address % 4096 + here ≡ 4096

pub is_near : (address n : ℕ) → IsNear address n (near address n)
is_near address n = by (nat_le n (4096 - address % 4096)) refl
  where
    by : (b : Bool) → nat_le n (4096 - address % 4096) ≡ b → IsNear address n (if b then n else 4096 - address % 4096)
    by true is = let le = leb-true n (4096 - address % 4096) is in record {
      inside = omega (arith, le);
      few = omega arith;
      some = λ some. some;
      behind = λ less. absurd (omega (arith, less));
    }
    by false is = let more = leb-false n (4096 - address % 4096) is in record {
      inside = omega arith;
      few = omega (arith, more);
      some = λ some. omega arith;
      behind = λ less. omega arith;
    }
