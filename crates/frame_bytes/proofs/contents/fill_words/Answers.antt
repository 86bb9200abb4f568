use Rattle.std.proofs.Common.{◌*◌, ◌+◌, ◌≤◌, ◌∙◌, length, take, drop, Some, ap, refl, arith}
use Rattle.frame_store.specs.StoredRuns.{many_at}
use Rattle.frame_bytes.proofs.Writes.{word_of_eight}
use Rattle.frame_bytes.proofs.contents.fill_words.Goals as goal

pub returns-clause-words : goal.returns-clause-words
returns-clause-words g c i h =
    let room : 8 * i + 8 ≤ length c.args.bytes.now = omega (arith, h) in
    many_at _ _ _ _ _ _ c.fill.ensures.view i (omega arith) (omega (arith, h))
    ∙ ap (λ w. Some w) (word_of_eight c.args.bytes.now (take 8 (drop (8 * i) c.args.bytes.now)) (8 * i) room refl)

pub returns-clause-others : goal.returns-clause-others
returns-clause-others g c = (_, c.fill.ensures.view)
