use Rattle.std.proofs.Common.{◌≡◌, Ok, ap, subst, sym, ◌∙◌}
use Rattle.script_language.specs.ThreadScript.{thread_script_of}
use Rattle.script_reader.specs.ReadResults.{GivesError}
use Rattle.audit_player.specs.ThreadRunResult.{PlaysLists}
use Rattle.audit_player.proofs.PlayedLists.{lists_refused, lists_unread, played_lists}
use Rattle.audit_player.proofs.threads.play_threads_with.Goals as goal

pub returns-in-Err-Io-clause-plays : goal.returns-in-Err-Io-clause-plays
returns-in-Err-Io-clause-plays g c = lists_unread (g.R.Source.remaining c.args.reader.now) (g.W.Sink.contents c.args.writer.now)

pub returns-in-Err-clause-plays : goal.returns-in-Err-clause-plays
returns-in-Err-clause-plays g c =
    let bytes = c.in-Ok.bytes.items in
    let refused = subst (λ bs. GivesError c.in-Err.error (thread_script_of bs)) c.as_slice.ensures.value c.in-Err.ensures.read in
    rw c.play_error_of.ensures (lists_refused (g.R.Source.remaining c.args.reader.now) (g.W.Sink.contents c.args.writer.now) bytes c.in-Err.error c.in-Ok.ensures.bytes refused)

pub returns-clause-plays : goal.returns-clause-plays
returns-clause-plays g c =
    let old = g.W.Sink.contents c.args.writer.now in
    let new = g.W.Sink.contents c.run_threads.new.writer in
    let bytes = c.in-Ok.bytes.items in
    let says : thread_script_of bytes ≡ Ok c.in-Ok-read.script = sym (ap thread_script_of c.as_slice.ensures.value) ∙ c.in-Ok-read.ensures.read in
    played_lists (g.R.Source.remaining c.args.reader.now) old new bytes c.run_threads.result c.in-Ok.ensures.bytes (subst (PlaysLists old new c.run_threads.result) (sym says) c.run_threads.ensures.plays)
