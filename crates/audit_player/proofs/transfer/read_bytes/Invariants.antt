use Rattle.std.proofs.Common.{◌≡◌, ◌-◌, ◌+◌, false, vec_len}
use Rattle.std.specs.Io.KnownBytes.{Consumes}
use Rattle.script_language.specs.declared.limits.TheConstants.{LONGEST_SCRIPT}
use Rattle.audit_player.proofs.transfer.read_bytes.Given as goal

abbrev pub invariant-reading : goal.invariant-reading
invariant-reading g l = record {
  fine : g.S.Source.broken l.fn.source ≡ false → g.S.Source.broken l.source ≡ false;
  took : Consumes (g.S.Source.remaining l.fn.source) (g.S.Source.remaining l.source) l.bytes.items;
}

abbrev pub decreases-reading : goal.decreases-reading
decreases-reading g l = LONGEST_SCRIPT + 1 - vec_len l.bytes
