use Rattle.std.proofs.Common.{◌+◌}
use Rattle.std.proofs.lemmas.Bool.{eqb-true}
use Rattle.script_reader.proofs.Ends.{back_of, first_of, in_three}
use Rattle.script_reader.proofs.piece_reader.cut.Goals as goal

pub returns : goal.returns
returns c =
    let a = c.split_at.ensures in
    let b = c.split_at-2.ensures in
    let last = c.in_ok-memrchr.ensures in
    let first = c.in_ok-memchr.ensures in
    record {
      whole = in_three c.args.piece.now _ _ _ _ _ _ a.front a.back b.front b.back;
      first_ends = first_of _ _ c.in_ok-memchr.field-0 b.front first.0.high (eqb-true _ 10 first.1);
      ended_ends = back_of c.args.piece.now _ _ c.in_ok-memrchr.field-0 (c.in_ok-memchr.field-0 + 1) a.front b.back last.0.high (eqb-true _ 10 last.1);
    }
