-- The entry that a TLB keeps of the worked example of `access_history`: page 1 by its leaf before the store, at 0x4000.
use Rattle.std.specs.Prelude.{false, Some}
use Rattle.access_history.specs.Examples.{example_leaf}
use Rattle.hart_tlb.specs.declared.entry.TlbEntry.{TlbEntry}

abbrev pub example_entry : TlbEntry
example_entry = record { page = 1; asid = 0; global = false; leaf = Some (record { word = example_leaf 4; level = 0 }) }
