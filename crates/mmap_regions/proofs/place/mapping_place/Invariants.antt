use Rattle.address_space.specs.Layouts.{LaysOut}
use Rattle.process_model.specs.Order.{HasOrder}
use Rattle.process_model.specs.Process.{Process}
use Rattle.mmap_regions.proofs.Places.{Searched}
use Rattle.mmap_regions.proofs.place.mapping_place.Given as goal

abbrev pub invariant-mappings : goal.invariant-mappings
invariant-mappings l = (p : Process) → LaysOut l.layout p → HasOrder 0 p → Searched p l.pages l.i l.end
