-- What sbrk returns, in the model's terms: the refusal for an error of the code (`refusal_of`, `answer_of`), the returned
-- size by the model's result (`size_before`), and `IsNewSize`: the size in bytes that is asked for and granted.
use Rattle.std.specs.Prelude.{◌≡◌, ℕ, ℤ, pos, None, Result, Ok, Err}
use Rattle.lazy_growth.specs.declared.size_error.SizeError.{SizeError}
use Rattle.lazy_growth.specs.declared.size_error.SizeError.TheVariants as error
use Rattle.process_model.specs.Heap.{size_refusal, wanted_size}
use Rattle.process_model.specs.Process.{Process}
use Rattle.process_model.specs.declared.reply.Refusal.{Refusal}
use Rattle.process_model.specs.declared.reply.Refusal.TheVariants as refusal

-- the model's refusal that an error stands for
abbrev pub refusal_of : SizeError → Refusal
refusal_of error.BadSize = refusal.BadSize
refusal_of error.NoRoom = refusal.NoRoom

-- a result of the code, with the model's refusal for an error
abbrev pub answer_of : Result ℕ SizeError → Result ℕ Refusal
answer_of (Ok n) = Ok n
answer_of (Err e) = Err (refusal_of e)

-- what sbrk returns for a process, by the model's result: the size that the process had, or the refusal
abbrev pub size_before : Process → Result Process Refusal → Result ℕ Refusal
size_before p (Ok q) = Ok p.size
size_before p (Err r) = Err r

-- `size`, in bytes, is the one that a change by `delta` asks for, and the process may have it
pub record IsNewSize (p : Process) (delta : ℤ) (size : ℕ) : Type 0 where
  pub wanted : wanted_size p delta ≡ pos size
  pub granted : size_refusal p (pos size) ≡ None
