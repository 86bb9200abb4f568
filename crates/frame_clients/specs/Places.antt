-- `Holdings`, a record: a `Pool` as contracts see it, with its free count (frames of count 0 less all credits, the
-- reserved frames) and, for each place, the view of its seat (what it holds and knows) or None. Predicates: a place has a
-- seat (`IsSeated`) or is empty (`IsEmpty`), and the invariant of a pool (`PoolInvariant`).
use Rattle.std.specs.Prelude.{◌≡◌, ℕ, List, Option, None, Some, refl, slice_get}
use Rattle.std.specs.Coded.{Coded, code_by, coded×, coded_ℕ, coded_list, coded_option}
use Rattle.frame_store.specs.View.{View, view_code, IsHeld, empty_view}
use Rattle.frame_store.specs.Plain.{PlainState, PlainStateInvariant}
use Rattle.frame_store.specs.Seats.{present}

pub record Holdings : Type 0 where
  pub free : ℕ
  pub seats : List (Option View)

abbrev pub holdings_code : Coded Holdings
holdings_code = code_by (ℕ
    × List (Option View)) (coded× coded_ℕ (coded_list (coded_option view_code))) (λ h. (h.free, h.seats)) (λ p. record { free = p.0; seats = p.1 }) (λ _. refl)

abbrev pub view_or_empty : Option (Option View) → View
view_or_empty (Some (Some v)) = v
view_or_empty (Some None) = empty_view 0
view_or_empty None = empty_view 0

-- the view of the seat in place i, or an empty view if there is none
abbrev pub view_at : List (Option View) → ℕ → View
view_at places i = view_or_empty (slice_get places i)

-- place i exists and has a seat
abbrev pub IsSeated : List (Option View) → ℕ → Type 0
IsSeated places i = slice_get places i ≡ Some (Some (view_at places i))

-- place i exists and is empty
abbrev pub IsEmpty : List (Option View) → ℕ → Type 0
IsEmpty places i = slice_get places i ≡ Some None

-- the invariant of a pool: the store's invariant holds of the seats that are there, and each of them holds frame 0
pub record PoolInvariant (bank : PlainState) (places : List (Option View)) : Type 0 where
  pub invariant : PlainStateInvariant bank (present places)
  pub anchored : (i : ℕ) (v : View) → slice_get places i ≡ Some (Some v) → IsHeld v 0
