use Rattle.std.proofs.Common.{◌≡◌, map, take}
use Rattle.process_model.specs.Images.{end_of_loads}
use Rattle.exec_segments.specs.Loads.{load_of}
use Rattle.exec_segments.proofs.Begins.{ArePartsOf}
use Rattle.exec_segments.proofs.start_process.parts_of.Given as goal

-- the segments so far have their parts
abbrev pub invariant-loads : goal.invariant-loads
invariant-loads l = record {
  parts : ArePartsOf l.parts.items (map load_of (take l.load-index l.loads));
  last : l.end ≡ end_of_loads 0 (map load_of (take l.load-index l.loads));
}
