use Rattle.std.proofs.Common.{rules, drop, ◌+◌}
use Rattle.std.proofs.lemmas.List.{at_drop_all}
use Rattle.audit_player.specs.ThreadText.{ended_lines}
use Rattle.audit_player.proofs.Blocks.{putting_more, putting_fails, putting_ends, next_line}
use Rattle.audit_player.proofs.thread_text.put_processes.Goals as goal

pub returns-then-not-put_process-clause-puts : goal.returns-then-not-put_process-clause-puts
returns-then-not-put_process-clause-puts g c =
    putting_fails _ _ _ _ _ c.put_process.new.block _ _ (ended_lines (drop (c.processes.finished-index + 1) c.args.all.now)) _ c.processes.invariant.puts (next_line c.args.all.now c.processes.finished-index _ c.finished-item.is c.processes-test.true) c.put_process.new.block c.if-not-put_process.ensures.puts

pub processes-preserved : goal.processes-preserved
processes-preserved g c = record {
  fine = search rules;
  puts = putting_more _ _ _ _ _ _ _ _ (ended_lines (drop (c.processes.finished-index + 1) c.args.all.now)) _ c.processes.invariant.puts (next_line c.args.all.now c.processes.finished-index _ c.finished-item.is c.processes-test.true) c.if-not-put_process.ensures.puts;
}

pub returns-clause-puts : goal.returns-clause-puts
returns-clause-puts g c = putting_ends _ _ _ _ _ _ (at_drop_all ended_lines c.args.all.now c.processes.finished-index (search rules)) c.processes.invariant.puts
