use Rattle.std.proofs.Common.{◌≡◌, [], drop, Ok}
use Rattle.process_model.specs.Images as model
use Rattle.exec_segments.proofs.Judged.{judge}
use Rattle.exec_segments.proofs.elf.read_image.Given as goal

-- the headers so far are judged
abbrev pub invariant-headers : goal.invariant-headers
invariant-headers l = record {
  scheme : l.judging.scheme ≡ l.fn.scheme;
  judged : judge l.fn.scheme (Ok []) (model.headers_from l.fn.bytes l.table l.count) ≡ judge l.fn.scheme (Ok l.judging.loads) (drop l.index (model.headers_from l.fn.bytes l.table l.count));
}
