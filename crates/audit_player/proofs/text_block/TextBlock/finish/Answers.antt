use Rattle.std.proofs.Common.{[], refl, subst}
use Rattle.std.specs.Io.KnownBytes.{Appends}
use Rattle.audit_player.specs.InputOutput.{WroteSome}
use Rattle.audit_player.proofs.Blocks.{block_written}
use Rattle.audit_player.proofs.text_block.TextBlock.finish.Goals as goal

pub returns-clause-turns : goal.returns-clause-turns
returns-clause-turns g c =
    let old = g.W.Sink.contents c.args.writer.now in
    let new = g.W.Sink.contents c.write_all.new.sink in
    block_written c.write_all.result old new c.args.self [] refl (λ done. rw (← c.self.view_is) (subst (Appends old new) c.as_slice.ensures.value (c.write_all.ensures.whole done))) (rw (← c.self.view_is) (subst (WroteSome old new) c.as_slice.ensures.value c.write_all.ensures.part))
