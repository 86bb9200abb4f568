use Rattle.std.proofs.Common.{rules, drop, ◌+◌}
use Rattle.std.proofs.lemmas.List.{at_drop_more, at_drop_all}
use Rattle.script_language.specs.Threads.{dotted_text}
use Rattle.audit_player.proofs.Blocks.{putting_more, putting_fails, putting_ends}
use Rattle.audit_player.proofs.thread_text.put_dotted.Goals as goal

pub returns-then-not-put_dotted-clause-puts : goal.returns-then-not-put_dotted-clause-puts
returns-then-not-put_dotted-clause-puts g c =
    putting_fails _ _ _ _ _ c.put_dotted.new.self _ _ (dotted_text (drop (c.numbers.number-index + 1) c.args.numbers.now)) _ c.numbers.invariant.puts (at_drop_more dotted_text c.args.numbers.now c.numbers.number-index 0 c.numbers-test.true) c.put_dotted.new.self c.if-not-put_dotted.ensures.puts

pub numbers-preserved : goal.numbers-preserved
numbers-preserved g c = record {
  fine = search rules;
  puts = putting_more _ _ _ _ _ _ _ _ (dotted_text (drop (c.numbers.number-index + 1) c.args.numbers.now)) _ c.numbers.invariant.puts (at_drop_more dotted_text c.args.numbers.now c.numbers.number-index 0 c.numbers-test.true) c.if-not-put_dotted.ensures.puts;
}

pub returns-clause-puts : goal.returns-clause-puts
returns-clause-puts g c = putting_ends _ _ _ _ _ _ (at_drop_all dotted_text c.args.numbers.now c.numbers.number-index (search rules)) c.numbers.invariant.puts
