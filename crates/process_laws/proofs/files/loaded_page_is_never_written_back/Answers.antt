use Rattle.process_laws.proofs.Marks.{clear_pages_stay, mark_was_there}
use Rattle.process_laws.proofs.files.loaded_page_is_never_written_back.Goals as goal

pub returns-clause-unmarked : goal.returns-clause-unmarked
returns-clause-unmarked c = mark_was_there

pub returns-clause-stays : goal.returns-clause-stays
returns-clause-stays c = clear_pages_stay
