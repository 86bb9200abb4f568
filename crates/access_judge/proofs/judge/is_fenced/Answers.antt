use Rattle.std.proofs.Common.{◌≤◌, length, sym, ◌∙◌, arith}
use Rattle.access_judge.specs.Judging.{found_of}
use Rattle.access_judge.proofs.FenceNumber.{not_fenced_now, not_later}
use Rattle.access_judge.proofs.judge.is_fenced.Goals as goal

pub returns-else-step-now : goal.returns-else-step-now
returns-else-step-now g c =
    let p = g.L.Log.past c.args.log.now in
    let now : length p.events ≤ c.args.step.now.last = omega (arith, c.if-step-now.false, c.now.ensures) in
    not_later c.args.step.now.last c.now.result (omega (arith, c.if-step-now.false)) ∙ sym (not_fenced_now c.args.question.now.extensions p.first p.events c.args.question.now.request.va.0 (found_of c.args.step.now) now)
