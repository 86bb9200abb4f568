use Rattle.std.proofs.Common.{rules, ◌≡◌, Err}
use Rattle.script_language.specs.Lines.{fields_of}
use Rattle.mmu_requests.proofs.NoClaims.{no_end}
use Rattle.mmu_requests.proofs.NoRequests.{weaker}
use Rattle.mmu_requests.proofs.fields.Fields.end.Goals as goal

pub returns-in_err-pa-clause-faulty : goal.returns-in_err-pa-clause-faulty
returns-in_err-pa-clause-faulty c =
    let told : c.from_residual.result ≡ Err c.in_err-pa.field-0.0 = search rules in
    rw told (weaker c.in_err-pa.field-0.0 (no_end (fields_of c.args.self.now.line.now)) c.in_err-pa.ensures.faulty)

pub returns-in_err-number-clause-faulty : goal.returns-in_err-number-clause-faulty
returns-in_err-number-clause-faulty c =
    let told : c.from_residual-in_err-number.result ≡ Err c.in_err-number.field-0.0 = search rules in
    rw told (weaker c.in_err-number.field-0.0 (no_end (fields_of c.args.self.now.line.now)) c.in_err-number.ensures.faulty)
