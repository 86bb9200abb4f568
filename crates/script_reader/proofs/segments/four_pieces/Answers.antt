use Rattle.script_reader.proofs.Colons.{five_pieces}
use Rattle.script_reader.proofs.segments.four_pieces.Goals as goal

pub returns-in-Some : goal.returns-in-Some
returns-in-Some c =
    five_pieces c.args.field.now c.in_ok-rest.field-0.now c.in_ok-rest-2.field-0.now c.in_ok-rest-3.field-0.now c.in-Some.field-0.now
    c.first_piece.result.0.now c.first_piece-2.result.0.now c.first_piece-3.result.0.now c.first_piece-4.result.0.now
    (rw c.in_ok-rest.was at c.first_piece.ensures) (rw c.in_ok-rest-2.was at c.first_piece-2.ensures) (rw c.in_ok-rest-3.was at c.first_piece-3.ensures) (rw c.in-Some.is at c.first_piece-4.ensures)
