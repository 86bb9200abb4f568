use Rattle.std.proofs.Common.{◌≡◌, ◌++◌, take}
use Rattle.std.specs.List.{filter_map}
use Rattle.line_traces.specs.Leaves.{come, gone}
use Rattle.line_traces.proofs.leaves.changed_leaves.Given as goal

-- the changes of the leaves so far that are gone
abbrev pub invariant-lost : goal.invariant-lost
invariant-lost l = l.changes.items ≡ filter_map (gone l.scheme l.after) (take l.leaf-index l.before)

-- all of those, and the changes of the leaves so far that came or are others
abbrev pub invariant-found : goal.invariant-found
invariant-found l = l.changes.items ≡ filter_map (gone l.scheme l.after) l.before ++ filter_map (come l.scheme l.before) (take l.leaf-index l.after)
