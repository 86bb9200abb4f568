use Rattle.process_laws.proofs.Marks.{served_stands, store_marks}
use Rattle.process_laws.proofs.files.one_service_sets_every_mark.Goals as goal
use Rattle.sv39_entry.specs.declared.access.Access.TheVariants.{Store}

pub returns-clause-resident : goal.returns-clause-resident
returns-clause-resident c = served_stands

pub returns-clause-fork : goal.returns-clause-fork
returns-clause-fork c a page g h s served there = (store_marks h.process page s (served_stands a Store page g h served) there).0

pub returns-clause-stored : goal.returns-clause-stored
returns-clause-stored c a page g h s served there = (store_marks h.process page s (served_stands a Store page g h served) there).1
