use Rattle.std.proofs.Common.{◌≡◌, length, ap, ◌∙◌, arith}
use Rattle.xv6vm_play_c.proofs.Plays.{front, written}
use Rattle.xv6vm_play_c.proofs.xv6vm_play.Goals as goal

pub returns-then-len-text-clause-too_long : goal.returns-then-len-text-clause-too_long
returns-then-len-text-clause-too_long c = λ _.
    let inner = ap (λ v. v.items) c.into_inner-answers.ensures in
    let p = written _ _ _ c.play.new.writer.inner.items (ap (λ r. r.inner.now) c.new-reader.ensures) (ap (λ w. w.inner.items) c.new-writer.ensures ∙ c.new.ensures.items) c.in-Ok.ensures.plays in
    (p.0, p.1, cc, omega (arith, c.if-len-text.true, c.len.ensures, c.len-2.ensures))

pub returns-clause-played : goal.returns-clause-played
returns-clause-played c = λ _.
    let p = written _ _ _ c.play.new.writer.inner.items (ap (λ r. r.inner.now) c.new-reader.ensures) (ap (λ w. w.inner.items) c.new-writer.ensures ∙ c.new.ensures.items) c.in-Ok.ensures.plays in
    let value = c.as_slice.ensures.value in
    let inner = ap (λ v. v.items) c.into_inner-answers.ensures in
    let after = c.copy_from_slice.ensures.after in
    let room : c.copy_from_slice.new.self ≡ c.play.new.writer.inner.items = cc in
    let count : c.len.result ≡ length c.play.new.writer.inner.items = cc in
    (p.0, p.1, front c.play.new.writer.inner.items c.copy_from_slice.new.self c.split_at_mut-front.result.1.now _ room count ∙ p.2, count ∙ ap length p.2)
