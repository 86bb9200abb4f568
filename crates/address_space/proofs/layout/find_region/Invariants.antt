use Rattle.std.proofs.Common.{◌≡◌, map, drop}
use Rattle.process_model.specs.Regions as model
use Rattle.address_space.specs.Layouts.{region_of}
use Rattle.address_space.proofs.layout.find_region.Given as goal

-- the regions that were passed by do not hold the page
abbrev pub invariant-loop-region : goal.invariant-loop-region
invariant-loop-region l = model.region_at (map region_of l.fn.regions) l.page ≡ model.region_at (map region_of (drop l.region-index l.fn.regions)) l.page
