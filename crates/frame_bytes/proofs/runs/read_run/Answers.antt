use Rattle.std.proofs.Common.{ℕ, ◌+◌, ◌*◌, ◌/◌, ◌∙◌, length, sym, subst, arith}
use Rattle.frame_bytes.specs.Contents.{HasBytes}
use Rattle.frame_bytes.proofs.Taken.{three_read}
use Rattle.frame_bytes.proofs.runs.read_run.Goals as goal

pub returns-clause-bytes : goal.returns-clause-bytes
returns-clause-bytes g c page has =
    let o : ℕ = c.args.offset in
    let len : ℕ = length c.args.bytes.now in
    let front : ℕ = c.whole_words-front.result.0 in
    let end : ℕ = c.whole_words-front.result.1 in
    let words = c.whole_words-front.ensures in
    let after_front = subst (λ v. HasBytes v c.args.frame.0 page) (sym c.read_part.ensures.view) has in
    let after_words = subst (λ v. HasBytes v c.args.frame.0 page) (sym (c.read_words.ensures.view ∙ c.read_part.ensures.view)) has in
    three_read c.args.bytes.now c.read_part.new.bytes c.read_words.new.bytes c.read_part-2.new.bytes page o (8 * ((o + front) / 8)) front end
    (omega (arith, words)) (omega (arith, words)) (omega (arith, has.length, c.requires.inside)) (omega arith) (λ some. omega (arith, words, some))
    (c.read_part.ensures.bytes page has) (c.read_words.ensures.bytes page after_front) (c.read_part-2.ensures.bytes page after_words)
