use Rattle.std.proofs.Common.{rules, ◌≡◌, Err}
use Rattle.mmu_requests.proofs.NoRequests.{weaker}
use Rattle.mmu_requests.proofs.fields.Fields.pmp.Goals as goal

pub returns-in_err-number-clause-faulty : goal.returns-in_err-number-clause-faulty
returns-in_err-number-clause-faulty c =
    let told : c.from_residual.result ≡ Err c.in_err-number.field-0.0 = search rules in
    rw told (weaker c.in_err-number.field-0.0 (λ none n e has. none n has.0) c.in_err-number.ensures.faulty)

pub returns-in_err-config-clause-faulty : goal.returns-in_err-config-clause-faulty
returns-in_err-config-clause-faulty c =
    let told : c.from_residual-in_err-config.result ≡ Err c.in_err-config.field-0.0 = search rules in
    rw told (weaker c.in_err-config.field-0.0 (λ none n e has. none e.config has.2) c.in_err-config.ensures.faulty)

pub returns-in_err-address-clause-faulty : goal.returns-in_err-address-clause-faulty
returns-in_err-address-clause-faulty c =
    let told : c.from_residual-in_err-address.result ≡ Err c.in_err-address.field-0.0 = search rules in
    rw told (weaker c.in_err-address.field-0.0 (λ none n e has. none e.address has.4) c.in_err-address.ensures.faulty)
