-- Definitions: the physical page number (PPN) of a frame, 0x80000 plus its number (memory begins at 0x80000000); and the
-- frame of a PPN, None if it is none of 2 ^ 16.
use Rattle.std.specs.Prelude.{ℕ, ◌+◌, ◌-◌, ◌^◌, ◌&&◌, nat_le, nat_lt, Option, Some, None, if◌then◌else◌}
use Rattle.sv39_entry.specs.declared.frame.FrameNo.{FrameNo}

abbrev pub ppn_of : ℕ → ℕ
ppn_of frame = 0x80000 + frame

-- the frame with a physical page number; None if that is none of the 2 ^ 16 from 0x80000 on
abbrev pub frame_at : ℕ → Option FrameNo
frame_at ppn = if nat_le 0x80000 ppn && nat_lt ppn (0x80000 + 2 ^ 16) then Some (record { 0 = ppn - 0x80000 }) else None
