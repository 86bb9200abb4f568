use Rattle.std.proofs.Common.{arith}
use Rattle.fault_texts.proofs.Pieces.{first_and_rest}
use Rattle.fault_texts.proofs.segment_forms.after_part.Goals as goal

pub returns-in_default-Some : goal.returns-in_default-Some
returns-in_default-Some c =
    let split = rw c.in_default-Some.is-1 at c.first_piece.ensures in
    let sizes = first_and_rest c.args.field.now c.first_piece.result.0.now c.in_default-Some.after.now split in
    omega arith
