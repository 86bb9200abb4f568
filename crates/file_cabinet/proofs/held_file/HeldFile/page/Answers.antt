use Rattle.std.proofs.Common.{◌≡◌, ◌∙◌, ap, arith, drop, length, min, take}
use Rattle.std.proofs.lemmas.List.{take_min}
use Rattle.process_model.specs.Files.{File}
use Rattle.file_cabinet.proofs.Pages.{rest_of}
use Rattle.file_cabinet.proofs.held_file.HeldFile.page.Goals as goal

pub returns-clause-bytes : goal.returns-clause-bytes
returns-clause-bytes c =
    let bytes = c.as_slice-bytes.result.now in
    let same : bytes ≡ c.args.self.now.bytes = c.as_slice-bytes.ensures.value ∙ ap (λ (f : File). f.bytes) c.self.view_is in
    let rest = rest_of bytes c.args.offset c.min.result c.min.ensures in
    let count = rw rest at c.min-2.ensures in
    let least : c.min-2.result ≡ min 4096 (length (drop c.args.offset bytes)) = omega (arith, count) in
    rw (rest, ← same) (ap (λ k. take k (drop c.args.offset bytes)) least ∙ take_min 4096 (drop c.args.offset bytes))
