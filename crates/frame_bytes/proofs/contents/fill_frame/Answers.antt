use Rattle.std.proofs.Common.{arith}
use Rattle.frame_bytes.specs.StoredWords.{changes_both, changed_sole}
use Rattle.frame_bytes.proofs.Filled.{filled}
use Rattle.frame_bytes.proofs.contents.fill_frame.Goals as goal

pub fill_part-filled-requires-clause-sole : goal.fill_part-filled-requires-clause-sole
fill_part-filled-requires-clause-sole g c = changed_sole _ _ _ c.fill_words.ensures.others _ c.requires.sole

pub zero_words-requires-clause-sole : goal.zero_words-requires-clause-sole
zero_words-requires-clause-sole g c =
    changed_sole _ _ _ c.fill_part-filled.ensures.others _ (changed_sole _ _ _ c.fill_words.ensures.others _ c.requires.sole)

pub returns-clause-bytes : goal.returns-clause-bytes
returns-clause-bytes g c =
    let words = c.zero_words.ensures.words c.args.bytes.now c.fill_part-filled.ensures.all (c.fill_part-filled.ensures.words c.fill_words.ensures.words) in
    filled _ _ _ c.requires.inside (λ k. omega (arith, c.type_inv.bytes k)) words

pub returns-clause-others : goal.returns-clause-others
returns-clause-others g c =
    changes_both _ _ _ _ c.fill_words.ensures.others (changes_both _ _ _ _ c.fill_part-filled.ensures.others c.zero_words.ensures.others)
