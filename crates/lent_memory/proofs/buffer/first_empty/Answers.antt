use Rattle.std.proofs.Common.{◌∙◌, sym}
use Rattle.lent_memory.proofs.Places.{full_more}
use Rattle.lent_memory.proofs.buffer.first_empty.Goals as goal

pub places-preserved : goal.places-preserved
places-preserved c = record { full = full_more _ _ _ c.places-test.true (sym c.is_empty.ensures ∙ c.if-is_empty.false) c.places.invariant.full }
