-- What mmap returns (`address_of_mapped`), and the process after it (`process_mapped`), by the model's result or refusal.
use Rattle.std.specs.Prelude.{ℕ, ◌*◌, Result, Ok, Err}
use Rattle.process_model.specs.Mappings.{Mapped}
use Rattle.process_model.specs.Process.{Process}
use Rattle.process_model.specs.declared.reply.Refusal.{Refusal}

-- the address at which the mapping begins, or the refusal
abbrev pub address_of_mapped : Result Mapped Refusal → Result ℕ Refusal
address_of_mapped (Ok m) = Ok (4096 * m.first)
address_of_mapped (Err e) = Err e

-- the process with the mapping; after a refusal as it was
abbrev pub process_mapped : Process → Result Mapped Refusal → Process
process_mapped p (Ok m) = m.process
process_mapped p (Err e) = p
