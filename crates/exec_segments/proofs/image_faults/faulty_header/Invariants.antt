use Rattle.std.proofs.Common.{◌≡◌, [], fold, take, Ok}
use Rattle.process_model.specs.Images as model
use Rattle.process_model.specs.Images.{next_judged}
use Rattle.exec_segments.proofs.image_faults.faulty_header.Given as goal

-- the headers so far pass every check
abbrev pub invariant-headers : goal.invariant-headers
invariant-headers l = record {
  scheme : l.judging.scheme ≡ l.fn.scheme;
  passed : fold (next_judged l.fn.scheme) (Ok []) (take l.index (model.headers_from l.fn.bytes l.table l.count)) ≡ Ok l.judging.loads;
}
