use Rattle.process_model.proofs.Places.{place_fits, none_above}
use Rattle.process_laws.proofs.places.place_is_the_greatest.Goals as goal

pub returns : goal.returns
returns c = record { fits = place_fits; greatest = none_above }
