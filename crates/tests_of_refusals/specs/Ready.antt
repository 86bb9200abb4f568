-- Predicate `IsReady`: a process over frames that threads share: its seat is at the store's table, and its space agrees with
-- some process of the model.
use Rattle.atomic_table.specs.Seated.{TableId}
use Rattle.shared_frames.specs.SeatsOfTable.{FitsIn, view_of}
use Rattle.shared_frames.specs.declared.seat.SharedSeat.{SharedSeat}
use Rattle.address_space.specs.Agreement.{body_of, IsAlive}
use Rattle.address_space.specs.declared.space.Space.{Space}

-- its seat is at the atomic table with this identifier, and the space agrees with some process of the model
abbrev pub IsReady : TableId → Space SharedSeat → Type 0
IsReady table space = FitsIn table space.seat × IsAlive (body_of view_of space)
