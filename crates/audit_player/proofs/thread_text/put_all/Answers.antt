use Rattle.std.proofs.Common.{refl}
use Rattle.script_language.specs.Text.{line_text}
use Rattle.script_language.specs.Threads.{free_text}
use Rattle.audit_player.specs.ThreadText.{threads_text}
use Rattle.audit_player.proofs.Blocks.{putting_begins, putting_fails, putting_more, putting_last}
use Rattle.audit_player.proofs.thread_text.put_all.Goals as goal

pub returns-then-not-put_processes-clause-puts : goal.returns-then-not-put_processes-clause-puts
returns-then-not-put_processes-clause-puts g c =
    let whole = threads_text c.args.all.now c.args.free c.args.frames in
    putting_fails _ _ _ _ _ c.put_processes.new.block _ _ (line_text (free_text c.args.free c.args.frames)) _ (putting_begins _ c.args.block.now whole) refl c.put_processes.new.block c.if-not-put_processes.ensures.puts

pub returns-clause-puts : goal.returns-clause-puts
returns-clause-puts g c =
    let whole = threads_text c.args.all.now c.args.free c.args.frames in
    putting_last _ _ _ _ _ _ c.put_free.new.self (line_text (free_text c.args.free c.args.frames)) _ (putting_more _ _ _ _ _ _ _ _ (line_text (free_text c.args.free c.args.frames)) _ (putting_begins _ c.args.block.now whole) refl c.if-not-put_processes.ensures.puts) c.put_free.ensures.puts
