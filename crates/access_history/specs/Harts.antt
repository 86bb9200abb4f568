-- A hart with a cache, as a machine (`Runs`): at any moment it may let a walk read one PTE more, by memory and what it keeps; at an event it
-- loses what the event covers, and whatever else it likes, and has A or D set in a leaf that it kept, if the event sets them. (The standard, 4.2.1,
-- 4.3.2.)
use Rattle.std.specs.Prelude.{◌≡◌, ◌⊎◌, ℕ, List, [], ◌∷◌, ◌++◌}
use Rattle.std.specs.List.{Contains}
use Rattle.walk_rules.specs.declared.extensions.Extensions.{Extensions}
use Rattle.access_history.specs.Held.{IsAtRoot, IsBelow, IsCovered, IsUpdate, MayRead, Read, with_word}
use Rattle.access_history.specs.History.{First}
use Rattle.access_history.specs.declared.event.Event.{Event}

-- a PTE that a hart keeps, with the moment of its word
pub record Kept : Type 0 where
  pub read : Read
  pub past : List Event

abbrev pub kept : Read → List Event → Kept
kept r past = record { read = r; past = past }

-- a hart may keep a PTE through an event: it kept it before; or it kept a leaf, in which the event sets A or D
abbrev pub IsLeft : Extensions → First → ℕ → Event → List Event → List Kept → Kept → Type 0
IsLeft x f va e h cs c =
    (Contains cs c × (IsCovered x f va e h c.read c.past → ⊥))
    ⊎ ((b : Kept) × (w : ℕ) × Contains cs b × IsUpdate x f va e h b.read w × (kept (with_word b.read w) (e ∷ h) ≡ c))

-- after these events a hart may keep these PTEs for an address
pub data Runs (x : Extensions) (f : First) (va : ℕ) : List Event → List Kept → Type 0 where
  starts : Runs x f va [] []
  reads : {h : List Event} {cs : List Kept} {r : Read} {past : List Event} → Runs x f va h cs → MayRead x f va h r past
      → IsAtRoot f va h r ⊎ ((c : Kept) × Contains cs c × IsBelow x c.read r) → Runs x f va h (cs ++ kept r past ∷ [])
  happens : {h : List Event} {e : Event} {cs ds : List Kept} → Runs x f va h cs → ((c : Kept) → Contains ds c → IsLeft x f va e h cs c)
      → Runs x f va (e ∷ h) ds
