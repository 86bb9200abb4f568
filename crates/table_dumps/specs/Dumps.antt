-- A dump of physical memory as a walk sees it: 64-bit words, little-endian, by physical page number and index.
use Rattle.std.specs.Prelude.{ℕ, Bool, ◌/◌, ◌+◌, ◌-◌, ◌*◌, ◌&&◌, None, Some, List, length, take, drop, nat_le, if◌then◌else◌}
use Rattle.std.specs.Int.{from_le_bytes, w64}
use Rattle.access_history.specs.History.{Memory}

-- the bytes of memory from a physical page on
pub record Dumped : Type 0 where
  pub base : ℕ
  pub bytes : List ℕ

-- where in the dump the word at an index of a page begins
abbrev pub place_of : ℕ → ℕ → ℕ → ℕ
place_of base ppn index = (ppn - base) * 4096 + index * 8

-- the word at an index of the page with a physical page number; None if one of its bytes is outside the dump
abbrev pub dump_memory : Dumped → Memory
dump_memory d ppn index =
    if nat_le d.base ppn && nat_le (place_of d.base ppn index + 8) (length d.bytes)
    then Some (from_le_bytes w64 (take 8 (drop (place_of d.base ppn index) d.bytes)))
    else None

-- all of `count` pages from one on are in the dump, each whole
abbrev pub has_pages : Dumped → ℕ → ℕ → Bool
has_pages d ppn count = nat_le d.base ppn && nat_le (ppn - d.base + count) (length d.bytes / 4096)
