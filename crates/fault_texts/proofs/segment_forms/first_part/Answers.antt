use Rattle.fault_texts.proofs.Pieces.{first_fits}
use Rattle.fault_texts.proofs.segment_forms.first_part.Goals as goal

pub returns : goal.returns
returns c = first_fits c.args.field.now _ _ c.first_piece.ensures
