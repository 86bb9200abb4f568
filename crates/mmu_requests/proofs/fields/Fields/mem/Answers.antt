use Rattle.std.proofs.Common.{rules, ◌≡◌, Err}
use Rattle.mmu_requests.proofs.NoRequests.{weaker}
use Rattle.mmu_requests.proofs.fields.Fields.mem.Goals as goal

pub returns-in_err-word-clause-faulty : goal.returns-in_err-word-clause-faulty
returns-in_err-word-clause-faulty c =
    let told : c.from_residual-in_err-word.result ≡ Err c.in_err-word.field-0.0 = search rules in
    rw told (weaker c.in_err-word.field-0.0 (λ none address w has. none w has.1) c.in_err-word.ensures.faulty)
