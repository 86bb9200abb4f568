-- How the parent's seat is split in a fork (`IsSplit`): the child's gets one reference to each frame that the child's tables
-- name, the parent's keeps the rest. Also that tables do not name a frame (`IsUnnamed`), and the references taken for the
-- child (`AreForChild`).
use Rattle.std.specs.Prelude.{◌≡◌, ◌⊎◌, ℕ, ◌-◌, ◌<◌}
use Rattle.frame_store.specs.View.{hold_of, IsSole, references, View}
use Rattle.table_walk.specs.Tables.{Tables}
use Rattle.address_space.specs.Agreement.{NamesFrame}

-- no table and no leaf of these tables is on the frame
abbrev pub IsUnnamed : Tables → ℕ → Type 0
IsUnnamed u f = (k : ℕ) → NamesFrame u f k → ⊥

-- view v was split into a, the old seat's, and b, the new seat's. b has one reference of each frame that u names, with the
-- words that v knew there, and no other; it is sole holder if v was and had just that reference. a has one reference less of
-- these frames, and of every other frame what v had. All credits are a's
pub record IsSplit (v a b : View) (u : Tables) : Type 0 where
  pub kept : (f : ℕ) → IsUnnamed u f → hold_of a f ≡ hold_of v f
  pub none : (f : ℕ) → IsUnnamed u f → references b f ≡ 0
  pub left : (f k : ℕ) → NamesFrame u f k → references a f ≡ references v f - 1
  pub known : (f k : ℕ) → NamesFrame u f k → 1 < references v f → (hold_of a f).words ≡ (hold_of v f).words
  pub came : (f k : ℕ) → NamesFrame u f k → references b f ≡ 1
  pub told : (f k : ℕ) → NamesFrame u f k → (hold_of b f).words ≡ (hold_of v f).words
  pub sole : (f k : ℕ) → NamesFrame u f k → references v f ≡ 1 → IsSole v f → IsSole b f
  pub credits : a.credits ≡ v.credits
  pub bare : b.credits ≡ 0

-- the extra references: one of each frame that the child's tables name, and none of any other
abbrev pub AreForChild : Tables → (ℕ → ℕ) → Type 0
AreForChild u extra = (f : ℕ) → ((extra f ≡ 1) × ((k : ℕ) × NamesFrame u f k)) ⊎ ((extra f ≡ 0) × IsUnnamed u f)
