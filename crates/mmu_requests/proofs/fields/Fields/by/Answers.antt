use Rattle.std.proofs.Common.{rules, ◌≡◌, Err}
use Rattle.mmu_requests.proofs.NoRequests.{weaker}
use Rattle.mmu_requests.proofs.NoClaims.{no_by}
use Rattle.script_language.specs.Lines.{fields_of}
use Rattle.mmu_requests.proofs.fields.Fields.by.Goals as goal

pub returns-in_err-number-clause-faulty : goal.returns-in_err-number-clause-faulty
returns-in_err-number-clause-faulty c =
    let told : c.from_residual.result ≡ Err c.in_err-number.field-0.0 = search rules in
    rw told (weaker c.in_err-number.field-0.0 (λ none. no_by (fields_of c.args.self.now.line.now) c.args.n (c.has_text.ensures.yes (search rules)) none) c.in_err-number.ensures.faulty)
