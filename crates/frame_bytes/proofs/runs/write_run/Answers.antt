use Rattle.std.proofs.Common.{ℕ, ◌+◌, ◌*◌, ◌/◌, ◌≤◌, List, length, arith}
use Rattle.frame_bytes.specs.StoredWords.{changes_both, changed_sole, changed_held}
use Rattle.frame_bytes.proofs.Writes.{write_words_more, write_rest}
use Rattle.frame_bytes.proofs.runs.write_run.Goals as goal

pub write_words-requires-clause-held : goal.write_words-requires-clause-held
write_words-requires-clause-held g c = changed_held _ _ _ c.write_part.ensures.others _ c.requires.held

pub write_words-requires-clause-sole : goal.write_words-requires-clause-sole
write_words-requires-clause-sole g c = changed_sole _ _ _ c.write_part.ensures.others _ c.requires.sole

pub write_part-requires-2-clause-held : goal.write_part-requires-2-clause-held
write_part-requires-2-clause-held g c = changed_held _ _ _ (changes_both _ _ _ _ c.write_part.ensures.others c.write_words.ensures.others) _ c.requires.held

pub write_part-requires-2-clause-sole : goal.write_part-requires-2-clause-sole
write_part-requires-2-clause-sole g c = changed_sole _ _ _ (changes_both _ _ _ _ c.write_part.ensures.others c.write_words.ensures.others) _ c.requires.sole

pub returns-clause-bytes : goal.returns-clause-bytes
returns-clause-bytes g c page has =
    let o : ℕ = c.args.offset in
    let bytes : List ℕ = c.args.bytes.now in
    let words = c.whole_words-front.ensures in
    let front : ℕ = c.whole_words-front.result.0 in
    let end : ℕ = c.whole_words-front.result.1 in
    let room : o ≤ length page = omega (arith, has.length, c.requires.inside) in
    let second = write_words_more page bytes o (8 * ((o + front) / 8)) front end room (omega (arith, words)) (omega (arith, words)) (λ some. omega (arith, words, some)) in
    let third = write_rest page bytes o end room (omega (arith, words)) in
    let two = rw second at (c.write_words.ensures.bytes _ (c.write_part.ensures.bytes page has)) in
    rw third at (c.write_part-2.ensures.bytes _ two)

pub returns-clause-others : goal.returns-clause-others
returns-clause-others g c = changes_both _ _ _ _ (changes_both _ _ _ _ c.write_part.ensures.others c.write_words.ensures.others) c.write_part-2.ensures.others
