use Rattle.std.proofs.Common.{◌≡◌, Ok, sym, subst}
use Rattle.script_language.specs.Script.{script_of}
use Rattle.audit_player.specs.PlayResult.{PlaysScript}
use Rattle.audit_player.proofs.Played.{played, read_failed, refused}
use Rattle.audit_player.proofs.player.play.Goals as goal

pub returns-in-Err-Io-clause-plays : goal.returns-in-Err-Io-clause-plays
returns-in-Err-Io-clause-plays g c = read_failed (g.R.Source.remaining c.args.reader.now) (g.W.Sink.contents c.args.writer.now)

pub returns-in-Err-clause-plays : goal.returns-in-Err-clause-plays
returns-in-Err-clause-plays g c =
    let read = c.in-Ok.ensures.bytes in
    rw c.play_error_of.ensures (refused (g.R.Source.remaining c.args.reader.now) (g.W.Sink.contents c.args.writer.now) read.0 c.in-Err.error read.1 (c.in-Err.ensures.read read.0 read.2))

pub returns-clause-plays : goal.returns-clause-plays
returns-clause-plays g c =
    let old = g.W.Sink.contents c.args.writer.now in
    let new = g.W.Sink.contents c.run.new.writer in
    let read = c.in-Ok.ensures.bytes in
    let says : script_of read.0 ≡ Ok c.in-Ok-finish.script = c.in-Ok-finish.ensures.read read.0 read.2 in
    played (g.R.Source.remaining c.args.reader.now) old new read.0 c.run.result read.1 (subst (PlaysScript old new c.run.result) (sym says) c.run.ensures.plays)
