-- An `Mmu` as contracts see it: memory, satp and PMP as they were at first, and the events since.
use Rattle.access_history.specs.Permits.{Past}
use Rattle.mmu.specs.Recorded.{past_of}
use Rattle.mmu.specs.declared.unit.Mmu.{Mmu}

abbrev pub past : Mmu → Past
past m = past_of m.history
