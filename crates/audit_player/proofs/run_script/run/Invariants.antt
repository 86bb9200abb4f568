use Rattle.std.proofs.Common.{◌≡◌, ◌<◌, ◌≤◌, false, drop, vec_len, vec_capacity}
use Rattle.script_language.specs.Text.{text_of}
use Rattle.audit_player.proofs.Written.{IsWriting}
use Rattle.audit_player.proofs.run_script.run.Given as goal

abbrev pub invariant-lines : goal.invariant-lines
invariant-lines g l = record {
  fine : g.W.Sink.broken l.fn.writer ≡ false → g.W.Sink.broken l.writer ≡ false;
  low : vec_len l.block < 65536;
  room : 66237 ≤ vec_capacity l.block;
  text : IsWriting (g.W.Sink.contents l.fn.writer) (g.W.Sink.contents l.writer) l.machine l.images (drop l.number l.commands) l.block.items (text_of l.script);
}
