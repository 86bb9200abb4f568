-- The invariant of a token table (`IsIssuerInvariant`, `Kept`): at most one seat (an issuer or a token at the table) is an
-- issuer; its list has each entry as often as tokens hold it; and what was redeemed last was on the list before.
-- `Learns`: what a load of the table's word shows.
use Rattle.std.specs.Prelude.{◌≡◌, ℕ, ◌+◌, true, false, List, [], ◌∷◌}
use mathlib.Core.Option.{some}
use lib.ListN.{get_elem?}
use Rattle.atomic_table.specs.Table.{State, Me, Step}
use Rattle.vouchers.specs.Entries.{TokenEntry, View, Has}

-- the sum of h over a list of entries
abbrev pub weigh : (TokenEntry → ℕ) → List TokenEntry → ℕ
weigh h [] = 0
weigh h (x ∷ xs) = h x + weigh h xs

-- the sum of g over the views
abbrev pub total : (View → ℕ) → List View → ℕ
total g [] = 0
total g (v ∷ vs) = g v + total g vs

-- each entry of the first list is in the second
abbrev pub AllIn : List TokenEntry → List TokenEntry → Type 0
AllIn es xs = (e : TokenEntry) → Has e es → Has e xs

-- The invariant, of the views of all seats: at most one is an issuer's; no other view has issued entries; for every weight h
-- of entries, those issued weigh as much as those held, so each entry is issued as often as it is held
pub record IsIssuerInvariant (views : List View) : Type 0 where
  pub seat : ℕ
  pub issuer : (id : ℕ) (v : View) → get_elem? views id ≡ some v → v.keeps ≡ true → id ≡ seat
  pub others : (id : ℕ) (v : View) → get_elem? views id ≡ some v → v.keeps ≡ false → v.given ≡ []
  pub balanced : (h : TokenEntry → ℕ) → total (λ v. weigh h v.given) views ≡ total (λ v. weigh h v.held) views
  -- the entries redeemed last were on the list before
  pub told : (id : ℕ) (v : View) → get_elem? views id ≡ some v → AllIn v.back v.before

abbrev pub Kept : ℕ → State (Unit {0}) View → Type 0
Kept n s = IsIssuerInvariant s.views

-- a load of the table's word changes nothing, and shows that the entries redeemed last were on the list before
abbrev pub Learns : Step (Unit {0}) → Me (Unit {0}) View → ℕ → Me (Unit {0}) View → Type 0
Learns st m found w = (w ≡ m) × AllIn m.0.back m.0.before
