use Rattle.std.proofs.Common.{arith, length, refl}
use Rattle.std.proofs.lemmas.Option.{slice_get_read}
use Rattle.handouts.proofs.BlankCounts.{blanks_on}
use Rattle.handouts.proofs.marks.marks_of.Goals as goal

pub lines-preserved : goal.lines-preserved
lines-preserved c =
    let there = slice_get_read c.args.handout.now (length c.args.handout.now) c.lines.place c.index-handout-place.result refl (omega (arith, c.lines-test.true)) c.index-handout-place.is in
    let step = blanks_on c.args.handout.now c.lines.place c.index-handout-place.result there in
    record {
      counted = omega (arith, step, c.lines.invariant.counted, c.in_ok-put_mark.ensures.counted);
      marked = c.in_ok-put_mark.ensures.marked c.args.handout.now there c.lines.invariant.marked;
    }
