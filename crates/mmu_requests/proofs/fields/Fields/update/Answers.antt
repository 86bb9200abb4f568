use Rattle.std.proofs.Common.{rules, ◌≡◌, Err}
use Rattle.script_language.specs.Lines.{fields_of}
use Rattle.mmu_requests.proofs.NoClaims.{no_update_word}
use Rattle.mmu_requests.proofs.NoRequests.{weaker}
use Rattle.mmu_requests.proofs.fields.Fields.update.Goals as goal

pub returns-in_err-word-clause-faulty : goal.returns-in_err-word-clause-faulty
returns-in_err-word-clause-faulty c =
    let told : c.from_residual-in_err-word.result ≡ Err c.in_err-word.field-0.0 = search rules in
    let there = c.has_text.ensures.yes (search rules) in
    rw told (weaker c.in_err-word.field-0.0 (no_update_word (fields_of c.args.self.now.line.now) c.args.n there) c.in_err-word.ensures.faulty)
