-- `IsExecRefusal`, a relation: how `exec` may be refused over any files and any frame store: as the files may refuse the
-- promise for the write-back (that writing these pages cannot fail), or by `NoFrame`.
use Rattle.std.specs.Prelude.{◌≡◌, ◌⊎◌}
use Rattle.file_cabinet.specs.Promises.{refusal_of}
use Rattle.file_cabinet.specs.declared.promise.PromiseError.{PromiseError}
use Rattle.process_model.specs.declared.reply.Refusal.{Refusal}
use Rattle.process_model.specs.declared.reply.Refusal.TheVariants.{NoFrame}

-- the files refused the promise for the write-back, as they may, or too few frames are free
abbrev pub IsExecRefusal : (PromiseError → Type 0) → Refusal → Type 0
IsExecRefusal CanRefuse e = ((x : PromiseError) × CanRefuse x × (e ≡ refusal_of x)) ⊎ (e ≡ NoFrame)
