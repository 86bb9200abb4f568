use Rattle.std.proofs.Common.{rules, ◌≡◌, Err, None, slice_get}
use Rattle.script_language.specs.Lines.{fields_of}
use Rattle.mmu_requests.proofs.NoClaims.{no_claim}
use Rattle.mmu_requests.proofs.NoRequests.{weaker}
use Rattle.mmu_requests.proofs.fields.Fields.claim.Goals as goal

pub returns-in_err-told-in-61-clause-faulty : goal.returns-in_err-told-in-61-clause-faulty
returns-in_err-told-in-61-clause-faulty c =
    let told : c.from_residual.result ≡ Err c.in_err-told-in-61.field-0.0 = search rules in
    let fs = fields_of c.args.self.now.line.now in
    let there : slice_get fs 4 ≡ None → ⊥ = search rules in
    rw told (weaker c.in_err-told-in-61.field-0.0 (no_claim fs there) c.in_err-told-in-61.ensures.faulty)
