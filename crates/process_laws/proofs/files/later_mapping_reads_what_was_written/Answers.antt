use Rattle.process_laws.proofs.WrittenBack.{later_reads}
use Rattle.process_laws.proofs.files.later_mapping_reads_what_was_written.Goals as goal

pub returns : goal.returns
returns c = later_reads
