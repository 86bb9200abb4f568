use Rattle.std.proofs.Common.{◌≡◌, false, drop}
use Rattle.audit_player.specs.ThreadText.{ended_lines}
use Rattle.audit_player.proofs.Blocks.{IsPutting}
use Rattle.audit_player.proofs.thread_text.put_processes.Given as goal

abbrev pub invariant-processes : goal.invariant-processes
invariant-processes g l = record {
  fine : g.W.Sink.broken l.fn.writer ≡ false → g.W.Sink.broken l.writer ≡ false;
  puts : IsPutting (g.W.Sink.contents l.fn.writer) (g.W.Sink.contents l.writer) l.fn.block l.block (ended_lines (drop l.finished-index l.all)) (ended_lines l.all);
}
