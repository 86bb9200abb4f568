use Rattle.std.proofs.Common.{rules, ◌≡◌, Err}
use Rattle.mmu_requests.proofs.NoRequests.{weaker}
use Rattle.mmu_requests.proofs.fields.Fields.ram.Goals as goal

pub returns-in_err-length-clause-faulty : goal.returns-in_err-length-clause-faulty
returns-in_err-length-clause-faulty c =
    let told : c.from_residual-in_err-length.result ≡ Err c.in_err-length.field-0.0 = search rules in
    rw told (weaker c.in_err-length.field-0.0 (λ none address end has. none has.1.0 has.1.1) c.in_err-length.ensures.faulty)
