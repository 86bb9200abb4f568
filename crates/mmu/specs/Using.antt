-- The words that satp had: what one more leaves (`Extends`).
use Rattle.std.specs.Prelude.{◌≡◌, ℕ, ◌<◌, nat_lt, List, [], ◌∷◌, ◌++◌, length, slice_index_or, if◌then◌else◌}
use Rattle.std.specs.HashMap.{spare}
use Rattle.std.specs.Vec.{vec_capacity, vec_len}
use Rattle.mmu.specs.declared.uses.Used.{Used}
use Rattle.mmu.specs.declared.uses.Uses.{Uses}

-- one more word: the same one with the same epoch is there, and nothing changes; or it is behind all
abbrev pub Extends : List Used → Used → List Used → Type 0
Extends us used vs =
    (place : ℕ) × ((d : Used) → place < length us → ((slice_index_or us place d).satp ≡ used.satp) × ((slice_index_or us place d).epoch ≡ used.epoch))
    × (vs ≡ (if nat_lt place (length us) then us else us ++ used ∷ []))

-- there is room for one more
abbrev pub HasRoom : Uses → Type 0
HasRoom u = (vec_len u.past < vec_capacity u.past) × (0 < spare u.places)
