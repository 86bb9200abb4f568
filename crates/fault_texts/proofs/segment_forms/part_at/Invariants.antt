use Rattle.std.proofs.Common.{◌≤◌, length}
use Rattle.fault_texts.proofs.segment_forms.part_at.Given as goal

-- the parts so far are passed over
abbrev pub invariant-parts : goal.invariant-parts
invariant-parts l = length l.rest ≤ length l.field.bytes.now
