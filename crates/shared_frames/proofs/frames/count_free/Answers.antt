use Rattle.std.proofs.Common.{rules, arith}
use Rattle.std.specs.Slots.{slots_items}
use Rattle.shared_frames.proofs.Ends.{zero_counts-next}
use Rattle.shared_frames.proofs.Zeros.{one_at_zero-zero, one_at_zero-more}
use Rattle.shared_frames.proofs.frames.count_free.Goals as goal
use Rattle.shared_frames.proofs.frames.count_free.Goals.{then-word-eq0, else-word-eq0}

pub loop-frame-preserved : goal.loop-frame-preserved
loop-frame-preserved c = let next = zero_counts-next (slots_items c.args.closed.now.words) c.loop-frame.frame c.word.result c.word.ensures in let was = c.loop-frame.invariant in
    elim c.if-word-eq0.branch [
      | then-word-eq0 w ↦ (let b = one_at_zero-zero c.word.result (search rules) in let is = w.free-is in (omega (arith, is, was.0), omega (arith, is, was.1, next, b)))
      | else-word-eq0 w ↦ (let b = one_at_zero-more c.word.result (search rules) in let is = w.free-is in (omega (arith, is, was.0), omega (arith, is, was.1, next, b)))
    ]
