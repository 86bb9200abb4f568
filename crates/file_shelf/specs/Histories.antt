-- A shelf's history (its page reads and writes of files, in order): the model's move for an entry (`use_of`),
-- and predicates: an entry is right (`IsRightUse`: a read has the bytes that the files have), and a history replays from
-- some files (`HistoryReplays`).
use Rattle.std.specs.Prelude.{◌≡◌, ℕ, Bool, true, false, List, [], ◌∷◌}
use Rattle.process_model.specs.Files.{File, file_page}
use Rattle.process_model.specs.PageMoves.{moved, page_read, page_write, PageMove}

-- the model's move for an entry: a page write if the flag is true, otherwise a page read
abbrev pub use_of : Bool → ℕ → ℕ → List ℕ → PageMove
use_of false file offset bytes = page_read file offset bytes
use_of true file offset bytes = page_write file offset bytes

-- a page read has the bytes that the files have there; of a page write nothing is asked
abbrev pub IsRightUse : List File → PageMove → Type 0
IsRightUse files (page_read n offset bytes) = bytes ≡ file_page files n offset
IsRightUse files (page_write n offset bytes) = Unit {0}

-- from these files on, each read of the history gives the page as the writes before it left it
abbrev pub HistoryReplays : List File → List PageMove → Type 0
HistoryReplays files [] = Unit {0}
HistoryReplays files (m ∷ ms) = IsRightUse files m × HistoryReplays (moved files m) ms
