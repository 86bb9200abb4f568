use Rattle.std.proofs.Common.{rules, ◌≡◌, Err}
use Rattle.mmu_requests.proofs.NoRequests.{weaker}
use Rattle.mmu_requests.proofs.fields.Fields.place.Goals as goal

pub returns-in_err-address-clause-faulty : goal.returns-in_err-address-clause-faulty
returns-in_err-address-clause-faulty c =
    let told : c.from_residual.result ≡ Err c.in_err-address.field-0.0 = search rules in
    rw told (weaker c.in_err-address.field-0.0 (λ none address has. none address has.0) c.in_err-address.ensures.faulty)
