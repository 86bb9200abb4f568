use Rattle.std.proofs.Common.{◌≡◌, false, length}
use Rattle.audit_player.specs.InputOutput.{WroteUpTo}
use Rattle.audit_player.proofs.transfer.write_all.Given as goal

abbrev pub invariant-writing : goal.invariant-writing
invariant-writing g l = record {
  fine : g.S.Sink.broken l.fn.sink ≡ false → g.S.Sink.broken l.sink ≡ false;
  wrote : WroteUpTo (g.S.Sink.contents l.fn.sink) (g.S.Sink.contents l.sink) l.text l.rest;
}

abbrev pub decreases-writing : goal.decreases-writing
decreases-writing g l = length l.rest
