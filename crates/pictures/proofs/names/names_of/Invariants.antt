use Rattle.std.proofs.Common.{◌≡◌, take}
use Rattle.std.specs.List.{filter_map}
use Rattle.pictures.specs.Names.{name_in}
use Rattle.pictures.proofs.names.names_of.Given as goal

-- the pages of the leaves so far that are in the frame
abbrev pub invariant-leaves : goal.invariant-leaves
invariant-leaves l = l.names.items ≡ filter_map (name_in l.ppn) (take l.leaf-index l.leaves)
