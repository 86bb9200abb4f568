use Rattle.frame_bytes.specs.StoredWords.{changes_none}
use Rattle.frame_bytes.proofs.runs.write_part.Goals as goal

pub returns-then-is_empty-clause-others : goal.returns-then-is_empty-clause-others
returns-then-is_empty-clause-others g c = changes_none _ _ c.requires.sole
