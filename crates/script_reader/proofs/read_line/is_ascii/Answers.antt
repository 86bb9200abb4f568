use Rattle.std.proofs.Common.{◌≡◌, ℕ, zero, suc, ◌≤◌, Bool, true, false, List, [], ◌∷◌, refl, arith}
use Rattle.std.specs.Prelude.{◌&&◌, nat_lt, slice_index}
use Rattle.std.specs.Bool.{MatchBool}
use Rattle.std.specs.Str.{IsAscii, IsNotAscii}
use Rattle.std.proofs.lemmas.Bool.{le-ltb, lt-ltb}
use Rattle.script_language.specs.Script.{is_ascii}
use Rattle.script_reader.proofs.read_line.is_ascii.Goals as goal

below : (line : List ℕ) → IsAscii line → is_ascii line ≡ true
below [] h = refl
below (b ∷ line) h = rw (lt-ltb b 128 (h zero), below line (λ i. h (suc i))) refl

and_not : (x : Bool) → (x && false) ≡ false
and_not true = refl
and_not false = refl

above : (line : List ℕ) (i : ℕ) → 128 ≤ slice_index line i → is_ascii line ≡ false
above [] i ge = absurd (omega (arith, ge))
above (b ∷ line) zero ge = rw (le-ltb b 128 ge) refl
above (b ∷ line) (suc i) ge = rw (above line i ge) (and_not (nat_lt b 128))

told : (line : List ℕ) (r : Bool) → MatchBool r (IsAscii line) (IsNotAscii line) → r ≡ is_ascii line
told line true h = rw (below line h) refl
told line false h = rw (above line h.0 h.1) refl

pub returns : goal.returns
returns c = told c.args.line.now c.is_ascii.result c.is_ascii.ensures.cases
