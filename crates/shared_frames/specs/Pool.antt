-- `Pool`, a record: `SharedFrames` as contracts see it, with the identity of its table and the number of frames.
use Rattle.std.specs.Prelude.{ℕ}
use Rattle.atomic_table.specs.Seated.{TableId}

-- the identity of the table, and the number of frames
pub record Pool : Type 0 where
  pub table : TableId
  pub frames : ℕ
