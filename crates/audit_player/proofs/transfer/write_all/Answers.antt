use Rattle.std.proofs.Common.{rules}
use Rattle.audit_player.proofs.Parts.{wrote_more}
use Rattle.audit_player.proofs.transfer.write_all.Goals as goal

pub writing-preserved : goal.writing-preserved
writing-preserved g c = record {
  fine = search rules;
  wrote = wrote_more _ _ _ c.args.text.now c.writing.rest.now c.split_at.result.1.now c.in-Some.count c.writing.invariant.wrote c.in-Some.ensures.bytes c.split_at.ensures.back;
}
