use Rattle.std.proofs.Common.{◌≡◌, ◌++◌}
use Rattle.std.specs.Vec.Iter.{into_iter_items}
use Rattle.script_language.specs.Script.{segments_in}
use Rattle.script_reader.proofs.field_access.take_segments.Given as goal

abbrev pub invariant-loop-value : goal.invariant-loop-value
invariant-loop-value l = l.segments.items ++ segments_in (into_iter_items l.value-iterator) ≡ segments_in l.fn.values.items
