use Rattle.std.proofs.Common.{subst}
use Rattle.std.proofs.lemmas.Bool.{false≢true}
use Rattle.std.specs.Str.{IsTrimAscii}
use Rattle.handouts.proofs.expected.split.Goals as goal

pub returns : goal.returns
returns c = record {
  no_comment = λ is. false≢true (c.if-is_comment.ensures.1 is);
  place = c.in-Some.at;
  finds = c.in-Some.ensures;
  before = search;
  after = subst (λ l. IsTrimAscii l c.trim_ascii.result.now) c.split_at.ensures.back c.trim_ascii.ensures.value;
}
