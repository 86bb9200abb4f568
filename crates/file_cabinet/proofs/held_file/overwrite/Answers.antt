use Rattle.file_cabinet.proofs.Pages.{page_written}
use Rattle.std.proofs.Common.{refl, length}
use Rattle.file_cabinet.proofs.held_file.overwrite.Goals as goal

pub returns : goal.returns
returns c = rw c.copy_from_slice.ensures.after (page_written c.args.bytes.now c.args.page.now c.args.offset c.min-start.result c.min-count.result (length c.args.page.now) c.min-start.ensures c.min-count.ensures refl)
