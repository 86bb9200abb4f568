use Rattle.std.proofs.Common.{arith}
use Rattle.fault_texts.proofs.Rows.{word_of_row}
use Rattle.fault_texts.proofs.near_words.nearest_word.Goals as goal
use Rattle.fault_texts.proofs.near_words.nearest_word.Goals.{in-Some+then-edits-fewest, in_default}

pub rows-preserved : goal.rows-preserved
rows-preserved c =
    elim c.match-branch-3.branch [
      | in-Some+then-edits-fewest w ↦ rw w.nearest-is (word_of_row c.all-rows.result c.rows.row-index _ c.all-rows.ensures (omega arith))
      | in_default w ↦ rw w.nearest-is c.rows.invariant
    ]
