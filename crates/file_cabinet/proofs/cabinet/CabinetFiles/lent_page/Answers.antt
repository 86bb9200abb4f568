use Rattle.std.proofs.Common.{◌∙◌, ap, drop}
use Rattle.process_model.specs.Bytes.{padded}
use Rattle.process_model.specs.Files.{bytes_of}
use Rattle.file_cabinet.proofs.Pages.{padded_front}
use Rattle.file_cabinet.proofs.cabinet.CabinetFiles.lent_page.Goals as goal

pub returns-clause-bytes : goal.returns-clause-bytes
returns-clause-bytes c =
    ap (padded 4096) c.page.ensures.bytes ∙ padded_front 4096 (drop c.args.offset c.in_ok-file.field-0.now.bytes)
    ∙ ap (λ f. padded 4096 (drop c.args.offset (bytes_of f))) c.in_ok-file.ensures
