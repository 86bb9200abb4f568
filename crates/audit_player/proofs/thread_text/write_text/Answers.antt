use Rattle.std.proofs.Common.{[], subst}
use Rattle.audit_player.specs.Blocks.{WritesFull}
use Rattle.audit_player.specs.ThreadText.{threads_text}
use Rattle.audit_player.proofs.Blocks.{broken_put, part_put, whole_put}
use Rattle.audit_player.proofs.thread_text.write_text.Goals as goal

pub returns-then-not-put_all-clause-part : goal.returns-then-not-put_all-clause-part
returns-then-not-put_all-clause-part g c = broken_put _ _ c.args.block c.put_all.new.block (threads_text c.args.all.now c.args.free c.args.frames) c.requires.empty c.if-not-put_all.ensures.puts

pub returns-clause-whole : goal.returns-clause-whole
returns-clause-whole g c done =
    let mid = g.W.Sink.contents c.put_all.new.writer in
    let new = g.W.Sink.contents c.finish.new.writer in
    whole_put _ mid new c.args.block c.put_all.new.block (threads_text c.args.all.now c.args.free c.args.frames) c.requires.empty c.if-not-put_all.ensures.puts (subst (λ b. WritesFull b mid new c.put_all.new.block []) done c.finish.ensures.turns)

pub returns-clause-part : goal.returns-clause-part
returns-clause-part g c =
    part_put c.finish.result _ (g.W.Sink.contents c.put_all.new.writer) (g.W.Sink.contents c.finish.new.writer) c.args.block c.put_all.new.block (threads_text c.args.all.now c.args.free c.args.frames) c.requires.empty c.if-not-put_all.ensures.puts c.finish.ensures.turns
