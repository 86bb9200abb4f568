use Rattle.std.proofs.Common.{◌≡◌, ◌++◌, ◌+◌, ◌*◌}
use Rattle.walk_lines.specs.Below.{in_turn, listed_at}
use Rattle.walk_lines.proofs.listing.+listing.Given as goal

abbrev pub decreases-list_entry : goal.decreases-list_entry
decreases-list_entry g l = 2 * l.level

abbrev pub decreases-list_table : goal.decreases-list_table
decreases-list_table g l = 2 * l.level + 1

-- the entries at the indices so far were appended
abbrev pub invariant-list_table-indices : goal.invariant-list_table-indices
invariant-list_table-indices g l = record {
  stays : g.M.Words.stays l.fn.words l.words;
  listed : l.entries.items ≡ l.fn.entries.items ++ in_turn (listed_at (g.M.Words.memory l.fn.words) l.level l.first l.table) l.index;
}
