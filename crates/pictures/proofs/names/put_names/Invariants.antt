use Rattle.std.proofs.Common.{◌≡◌, ◌++◌, take}
use Rattle.std.specs.List.{filter_map}
use Rattle.pictures.specs.Names.{leaf_name}
use Rattle.pictures.proofs.names.put_names.Given as goal

-- the pages of the entries so far were appended
abbrev pub invariant-entries : goal.invariant-entries
invariant-entries l = l.names.items ≡ l.initial.names.items ++ filter_map (leaf_name l.slot l.scheme) (take l.entry-index l.entries)
