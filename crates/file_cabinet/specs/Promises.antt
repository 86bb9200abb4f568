-- `refusal_of`, a function: the refusal of the model with which a call ends if the page reads and writes of files that it
-- needs were not promised (a promise: so that they cannot fail).
use Rattle.file_cabinet.specs.declared.promise.PromiseError.{PromiseError}
use Rattle.file_cabinet.specs.declared.promise.PromiseError.TheVariants as error
use Rattle.process_model.specs.declared.reply.Refusal.{Refusal}
use Rattle.process_model.specs.declared.reply.Refusal.TheVariants as refusal

-- the refusal of the model with the same name as the error
abbrev pub refusal_of : PromiseError → Refusal
refusal_of error.Memory = refusal.Memory
refusal_of error.JournalFull = refusal.JournalFull
