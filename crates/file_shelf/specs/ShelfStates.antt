-- `ShelfState`, a record: a `Shelf` as contracts see it (files at first and now, history of page reads and writes, pages
-- promised). Predicates: how page reads and writes change it (`HasMoves`), and with which error a promise may be refused
-- (`CanRefuse`). Laws: what the trait `Files` asks of them.
use Rattle.std.proofs.Common.{ap, sym, ◌∙◌}
use Rattle.std.specs.Prelude.{◌≡◌, ℕ, ◌+◌, ◌<◌, ◌≤◌, List, [], ◌++◌, length, refl}
use Rattle.std.proofs.lemmas.List.{append-nil, append_assoc}
use Rattle.file_cabinet.specs.declared.promise.PromiseError.{PromiseError}
use Rattle.file_cabinet.specs.declared.promise.PromiseError.TheVariants as error
use Rattle.file_shelf.specs.declared.shelf.TheConstants.{MOST_USES}
use Rattle.process_model.specs.Files.{File}
use Rattle.process_model.specs.PageMoves.{files_after, files_after-append, PageMove}

pub record ShelfState : Type 0 where
  -- the files that it began with
  pub first : List File
  pub files : List File
  pub history : List PageMove
  -- how many pages may be read or written before the next promise
  pub room : ℕ

-- from a to b exactly these pages were read and written, in this order: the history has them as its last entries, and the
-- files are those that they leave
pub record HasMoves (a : ShelfState) (moves : List PageMove) (b : ShelfState) : Type 0 where
  pub first : b.first ≡ a.first
  pub files : b.files ≡ files_after a.files moves
  pub history : b.history ≡ a.history ++ moves

-- With which error a promise of n pages may be refused: with none if n is 0; with JournalFull only if n more entries would
-- be more than a history can have, and with Memory only if they would not
abbrev pub CanRefuse : ShelfState → ℕ → PromiseError → Type 0
CanRefuse s n error.Memory = (0 < n) × (length s.history + n ≤ MOST_USES)
CanRefuse s n error.JournalFull = (0 < n) × (MOST_USES < length s.history + n)

pub asks : (s : ShelfState) (n : ℕ) (e : PromiseError) → CanRefuse s n e → 0 < n
asks s n error.Memory can = can.0
asks s n error.JournalFull can = can.0

pub stays : (a : ShelfState) → HasMoves a [] a
stays a = record { first = refl; files = refl; history = sym (append-nil a.history) }

pub goes_on : (a b c : ShelfState) (ms ns : List PageMove) → HasMoves a ms b → HasMoves b ns c → HasMoves a (ms ++ ns) c
goes_on a b c ms ns one two = record {
  first = two.first ∙ one.first;
  files = two.files ∙ ap (λ fs. files_after fs ns) one.files ∙ sym (files_after-append a.files ms ns);
  history = two.history ∙ ap (λ hs. hs ++ ns) one.history ∙ append_assoc a.history ms ns;
}

pub comes_to : (a b : ShelfState) (ms : List PageMove) → HasMoves a ms b → b.files ≡ files_after a.files ms
comes_to a b ms became = became.files
