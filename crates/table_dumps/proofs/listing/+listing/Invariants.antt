use Rattle.std.proofs.Common.{◌≡◌, ◌++◌, ◌+◌, ◌*◌}
use Rattle.table_dumps.specs.Below.{in_turn, listed_at}
use Rattle.table_dumps.specs.Dumps.{dump_memory}
use Rattle.table_dumps.proofs.listing.+listing.Given as goal

abbrev pub decreases-list_entry : goal.decreases-list_entry
decreases-list_entry l = 2 * l.level

abbrev pub decreases-list_table : goal.decreases-list_table
decreases-list_table l = 2 * l.level + 1

-- the entries at the indices so far were appended
abbrev pub invariant-list_table-indices : goal.invariant-list_table-indices
invariant-list_table-indices l = l.entries.items ≡ l.fn.entries.items ++ in_turn (listed_at l.extensions (dump_memory l.dump) l.level l.first l.table) l.index
