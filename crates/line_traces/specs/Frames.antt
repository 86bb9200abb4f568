-- The frames of which a line changed the counts of references, by the counts of all frames before and after it, each list in ascending order
-- of frames: those taken (`taken_pages`), given back (`given_back_pages`), and held before and after by other counts (`recounts`).
use Rattle.std.specs.Prelude.{ℕ, zero, suc, ◌^◌, ◌==◌, ◌&&◌, ◌++◌, Bool, not, List, [], ◌∷◌, length, map, filter, min, slice_index}
use Rattle.sv39_entry.specs.Frame.{ppn_of}
use Rattle.walk_lines.specs.declared.numbers.Hex.{Hex}
use Rattle.line_traces.specs.declared.frames.Recount.{Recount}

-- a frame by its number, with its counts
abbrev pub counts_of : List ℕ → List ℕ → ℕ → Recount
counts_of before after n = record { frame = record { 0 = ppn_of n }; before = slice_index before n; after = slice_index after n }

-- the frames whose numbers are below n, in ascending order
unfoldable pub counts_below : List ℕ → List ℕ → ℕ → List Recount
counts_below before after zero = []
counts_below before after (suc n) = counts_below before after n ++ counts_of before after n ∷ []

-- the frames that have a count in both lists
abbrev pub counted : List ℕ → List ℕ → List Recount
counted before after = counts_below before after (min (min (length before) (length after)) (2 ^ 16))

-- free before, held after
abbrev pub is_taken : Recount → Bool
is_taken it = it.before == 0 && not (it.after == 0)

-- held before, free after
abbrev pub is_given_back : Recount → Bool
is_given_back it = not (it.before == 0) && it.after == 0

-- held before and after, by other counts
abbrev pub is_recounted : Recount → Bool
is_recounted it = not (it.before == 0) && not (it.after == 0) && not (it.before == it.after)

abbrev pub page_of : Recount → Hex
page_of it = it.frame

abbrev pub taken_pages : List ℕ → List ℕ → List Hex
taken_pages before after = map page_of (filter is_taken (counted before after))

abbrev pub given_back_pages : List ℕ → List ℕ → List Hex
given_back_pages before after = map page_of (filter is_given_back (counted before after))

abbrev pub recounts : List ℕ → List ℕ → List Recount
recounts before after = filter is_recounted (counted before after)
