-- Relations for a process's end by exit or by a rule: last journal entry and write-back of every mapping (`IsClosed`), or
-- neither since the files refused to promise (reserve) the write-back (`IsBroken`); either (`Closes`). Outcomes without an
-- entry (`IsCause`), and those that a refused promise gives (`cause_of`, `outcome_of`).
use Rattle.std.specs.Prelude.{◌≡◌, ◌⊎◌, List, [], ◌∷◌, ◌++◌, length}
use Rattle.file_cabinet.specs.declared.promise.PromiseError.{PromiseError}
use Rattle.file_cabinet.specs.declared.promise.PromiseError.TheVariants as error
use Rattle.file_shelf.specs.ShelfStates.{HasMoves, CanRefuse, ShelfState}
use Rattle.hart_calls.specs.declared.journal_entry.JournalEntry.{JournalEntry}
use Rattle.hart_calls.specs.declared.finished.Finished.{Finished}
use Rattle.process_model.specs.declared.call.ProcessEnd.{ProcessEnd}
use Rattle.process_model.specs.declared.call.ProcessEnd.TheVariants as outcome
use Rattle.process_model.specs.Mappings.{all_written_back}
use Rattle.process_model.specs.PageMoves.{all_moves}
use Rattle.process_model.specs.Process.{Process}
use Rattle.process_model.specs.declared.reply.Refusal.{Refusal}
use Rattle.process_model.specs.declared.reply.Refusal.TheVariants as refusal

-- the outcomes of a process that ends with no journal entry more
abbrev pub IsCause : ProcessEnd → Type 0
IsCause outcome.Memory = Unit {0}
IsCause outcome.JournalFull = Unit {0}
IsCause _ = ⊥

-- the outcome of a process that ends because the files refused a promise
abbrev pub cause_of : Refusal → ProcessEnd
cause_of refusal.JournalFull = outcome.JournalFull
cause_of _ = outcome.Memory

abbrev pub outcome_of : PromiseError → ProcessEnd
outcome_of error.Memory = outcome.Memory
outcome_of error.JournalFull = outcome.JournalFull

-- the journal has entry e more, and every mapping was written back
pub record IsClosed (p : Process) (es : List JournalEntry) (e : JournalEntry) (o : ProcessEnd) (f : Finished) (a b : ShelfState) : Type 0 where
  pub outcome : f.outcome ≡ o
  pub journal : f.journal.items ≡ es ++ e ∷ []
  pub moves : HasMoves a (all_moves p) b
  pub files : b.files ≡ all_written_back a.files p

-- the files could refuse to promise the pages of the write-back: the journal has no entry more, and no page was read or
-- written
pub record IsBroken (p : Process) (es : List JournalEntry) (f : Finished) (a b : ShelfState) : Type 0 where
  pub error : PromiseError
  pub could : CanRefuse a (length (all_moves p)) error
  pub outcome : f.outcome ≡ outcome_of error
  pub journal : f.journal.items ≡ es
  pub moves : HasMoves a [] b

-- a process ends with its last entry and write-back (`IsClosed`), or the files refused the write-back (`IsBroken`)
abbrev pub Closes : Process → List JournalEntry → JournalEntry → ProcessEnd → Finished → ShelfState → ShelfState → Type 0
Closes p es e o f a b = IsClosed p es e o f a b ⊎ IsBroken p es f a b
