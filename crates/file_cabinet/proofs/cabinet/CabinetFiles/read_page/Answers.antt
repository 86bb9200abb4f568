use Rattle.std.proofs.Common.{ap, ◌∙◌, drop}
use Rattle.process_model.specs.Bytes.{padded}
use Rattle.process_model.specs.Files.{bytes_of}
use Rattle.file_cabinet.proofs.Pages.{zeros_of_nothing}
use Rattle.file_cabinet.proofs.cabinet.CabinetFiles.read_page.Goals as goal

pub returns-in_default-clause-bytes : goal.returns-in_default-clause-bytes
returns-in_default-clause-bytes c =
    let zeros = rw c.told-bytes at (c.fill.ensures.after (λ y e. e)) in
    zeros ∙ zeros_of_nothing 4096 c.args.offset ∙ ap (λ f. padded 4096 (drop c.args.offset (bytes_of f))) c.in_default.ensures
