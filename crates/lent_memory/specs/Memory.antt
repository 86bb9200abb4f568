-- A lent memory as a walk sees it: which words it has, and where.
use Rattle.std.specs.Prelude.{ℕ, ◌+◌, ◌*◌, ◌-◌, None, is_some, List, slice_get, nat_le, if◌then◌else◌}
use Rattle.table_walk.specs.Memory.{Extent, Memory}

-- the words of the frames from a physical page number on, 512 of each
pub record Lent : Type 0 where
  pub base : ℕ
  pub words : List ℕ

-- the word at an index of the frame with a physical page number; None below the first frame, and past the last word
abbrev pub lent_memory : Lent → Memory
lent_memory m ppn index = if nat_le m.base ppn then slice_get m.words ((ppn - m.base) * 512 + index) else None

-- whether it is there
abbrev pub lent_extent : Lent → Extent
lent_extent m ppn index = is_some (lent_memory m ppn index)
