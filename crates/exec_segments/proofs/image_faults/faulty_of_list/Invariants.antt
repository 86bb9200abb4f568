use Rattle.std.proofs.Common.{◌≡◌, [], fold, map, take, Ok}
use Rattle.process_model.specs.Images as model
use Rattle.process_model.specs.Images.{next_judged}
use Rattle.exec_segments.proofs.image_faults.faulty_of_list.Given as goal

-- the segments so far pass every check
abbrev pub invariant-segments : goal.invariant-segments
invariant-segments l = record {
  scheme : l.judging.scheme ≡ l.fn.scheme;
  passed : fold (next_judged l.fn.scheme) (Ok []) (take l.number (map model.load_of l.fn.segments)) ≡ Ok l.judging.loads;
}
