use Rattle.std.proofs.Common.{◌≡◌, [], drop, map, Ok}
use Rattle.process_model.specs.Images as model
use Rattle.exec_segments.proofs.Judged.{judge}
use Rattle.exec_segments.proofs.image.Image.from_segments.Given as goal

-- the segments so far are judged
abbrev pub invariant-segments : goal.invariant-segments
invariant-segments l = record {
  scheme : l.judging.scheme ≡ l.fn.scheme;
  judged : judge l.fn.scheme (Ok []) (map model.load_of l.fn.segments) ≡ judge l.fn.scheme (Ok l.judging.loads) (drop l.segment-index (map model.load_of l.fn.segments));
}
