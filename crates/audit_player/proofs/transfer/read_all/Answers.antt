use Rattle.std.proofs.Common.{◌∙◌, sym}
use Rattle.audit_player.proofs.Parts.{consumed_more, nearer, piece_comes}
use Rattle.audit_player.proofs.transfer.read_all.Goals as goal

pub reading-smaller : goal.reading-smaller
reading-smaller g c =
    let i = c.reading.invariant in
    nearer i.bytes _ c.reading.reading c.add.new.self i.has (c.in_ok-add.ensures.read i.bytes i.has) (piece_comes c.read.new.buffer c.in-Some.count c.in-Some.ensures.bound c.if-count-eq0.false)
    (sym c.is_too_long.ensures ∙ c.reading-test.true)

pub reading-preserved : goal.reading-preserved
reading-preserved g c =
    let i = c.reading.invariant in
    record {
      fine = λ f. rw (i.fine f) at c.in-Some.ensures.failed;
      bytes = _;
      took = consumed_more _ _ _ _ _ i.took c.in-Some.ensures.bytes;
      has = c.in_ok-add.ensures.read i.bytes i.has;
    }
