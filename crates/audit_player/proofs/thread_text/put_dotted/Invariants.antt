use Rattle.std.proofs.Common.{◌≡◌, false, drop}
use Rattle.script_language.specs.Threads.{dotted_text}
use Rattle.audit_player.proofs.Blocks.{IsPutting}
use Rattle.audit_player.proofs.thread_text.put_dotted.Given as goal

abbrev pub invariant-numbers : goal.invariant-numbers
invariant-numbers g l = record {
  fine : g.W.Sink.broken l.fn.writer ≡ false → g.W.Sink.broken l.writer ≡ false;
  puts : IsPutting (g.W.Sink.contents l.fn.writer) (g.W.Sink.contents l.writer) l.fn.block l.block (dotted_text (drop l.number-index l.numbers)) (dotted_text l.numbers);
}
