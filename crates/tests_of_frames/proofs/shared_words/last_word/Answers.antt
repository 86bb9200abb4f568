use Rattle.shared_frames.specs.SeatsOfTable.{fits_still}
use Rattle.tests_of_frames.proofs.shared_words.last_word.Goals as goal

pub returns : goal.returns
returns c = record { fits = (fits_still _ _ _ c.args.seat.now c.load.new.seat c.access.ensures c.load.ensures.keeps c.requires.fits).1 }
