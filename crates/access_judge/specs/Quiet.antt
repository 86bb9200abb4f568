-- When walks under a word that satp had have nothing to say: their PTEs serve no more.
use Rattle.std.specs.Prelude.{◌≡◌, ◌≢◌, ◌⊎◌, ℕ, false, Some, List, length}
use Rattle.sv39_entry.specs.Satp.{asid}
use Rattle.access_history.specs.Held.{has_global}
use Rattle.access_history.specs.History.{IsPast, memory_at}
use Rattle.access_history.specs.Permits.{Past, satp_of}
use Rattle.access_history.specs.declared.event.Event.{Event}
use Rattle.access_judge.specs.Search.{Use}

-- no word of memory, now or before, makes a mapping global
abbrev pub HasNoGlobals : Past → Type 0
HasNoGlobals p = (k : List Event) (table index w : ℕ) → IsPast p.events k → memory_at p.first.memory k table index ≡ Some w → has_global w ≡ false

-- a fence has ended the walks of a use of satp, or they are of another ASID than the present one; and nothing that they read is global
abbrev pub IsOver : Past → Use → Type 0
IsOver p u = ((u.last ≢ length p.events) ⊎ (asid u.satp ≢ asid (satp_of p))) × HasNoGlobals p
