use Rattle.std.proofs.Common.{rules, ◌≡◌, Err}
use Rattle.mmu_requests.proofs.NoRequests.{weaker}
use Rattle.mmu_requests.proofs.fields.Fields.width.Goals as goal

pub returns-in_err-number-clause-faulty : goal.returns-in_err-number-clause-faulty
returns-in_err-number-clause-faulty c =
    let told : c.from_residual.result ≡ Err c.in_err-number.field-0.0 = search rules in
    rw told (weaker c.in_err-number.field-0.0 (λ none w has. none w has.0) c.in_err-number.ensures.faulty)
