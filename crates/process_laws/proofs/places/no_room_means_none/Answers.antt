use Rattle.process_model.proofs.Places.{none_fits}
use Rattle.process_laws.proofs.places.no_room_means_none.Goals as goal

pub returns : goal.returns
returns c = none_fits
