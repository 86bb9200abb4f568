use Rattle.std.proofs.Common.{subst}
use Rattle.std.specs.Io.KnownBytes.{Appends}
use Rattle.audit_player.specs.InputOutput.{WroteSome}
use Rattle.audit_player.proofs.Blocks.{block_written}
use Rattle.audit_player.proofs.text_block.write_full.Goals as goal

pub returns-clause-turns : goal.returns-clause-turns
returns-clause-turns g c =
    let old = g.W.Sink.contents c.args.writer.now in
    let new = g.W.Sink.contents c.write_all-written.new.sink in
    block_written c.write_all-written.result old new c.args.block.now.items c.clear.new.self.items c.clear.ensures.items (λ done. subst (Appends old new) c.as_slice.ensures.value (c.write_all-written.ensures.whole done)) (subst (WroteSome old new) c.as_slice.ensures.value c.write_all-written.ensures.part)
