use Rattle.std.proofs.Common.{◌≡◌, filter, take}
use Rattle.table_dumps.specs.Leaves.{is_leaf}
use Rattle.table_dumps.proofs.space.leaves.Given as goal

-- the leaves before a place were taken
abbrev pub invariant-entries : goal.invariant-entries
invariant-entries l = l.leaves.items ≡ filter (is_leaf l.extensions) (take l.place l.entries)
