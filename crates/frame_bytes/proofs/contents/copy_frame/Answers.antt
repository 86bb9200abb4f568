use Rattle.std.proofs.Common.{◌∙◌, Some, ap, arith}
use Rattle.frame_store.specs.StoredRuns.{is_known, many_at}
use Rattle.frame_store.specs.View.{or_zero}
use Rattle.frame_bytes.proofs.contents.copy_frame.Goals as goal

pub copy-requires-clause-known : goal.copy-requires-clause-known
copy-requires-clause-known g c i h = is_known _ _ _ _ (c.requires.known.1.words i h)

pub returns-clause-bytes : goal.returns-clause-bytes
returns-clause-bytes g c bytes has = record {
  length = has.length;
  small = has.small;
  words = λ i h. many_at _ _ _ _ _ _ c.copy.ensures.view i (omega arith) (omega (arith, h)) ∙ ap (λ k. Some (or_zero k)) (has.words i h);
}

pub returns-clause-others : goal.returns-clause-others
returns-clause-others g c = (_, c.copy.ensures.view)
