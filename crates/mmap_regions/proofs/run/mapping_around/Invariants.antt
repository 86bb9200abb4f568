use Rattle.std.proofs.Common.{◌≡◌, map, drop}
use Rattle.process_model.specs.Mappings as model
use Rattle.address_space.specs.Layouts.{region_of}
use Rattle.mmap_regions.proofs.run.mapping_around.Given as goal

-- the mappings that were passed by do not hold the run
abbrev pub invariant-loop-mapping : goal.invariant-loop-mapping
invariant-loop-mapping l = model.mapping_around (map region_of l.fn.mappings) l.first l.end ≡ model.mapping_around (map region_of (drop l.mapping-index l.fn.mappings)) l.first l.end
