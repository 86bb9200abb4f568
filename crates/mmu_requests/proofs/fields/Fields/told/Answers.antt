use Rattle.std.proofs.Common.{rules, ◌≡◌, Err, None, slice_get}
use Rattle.script_language.specs.Lines.{fields_of}
use Rattle.mmu_requests.proofs.NoClaims.{no_more, no_second, no_third}
use Rattle.mmu_requests.proofs.NoRequests.{if_mistake, weaker}
use Rattle.mmu_requests.proofs.fields.Fields.told.Goals as goal

pub returns-in_err-update-clause-faulty : goal.returns-in_err-update-clause-faulty
returns-in_err-update-clause-faulty c =
    let told : c.from_residual-in_err-update.result ≡ Err c.in_err-update.field-0.0 = search rules in
    let fs = fields_of c.args.self.now.line.now in
    let none = no_second fs c.in_ok-end.end c.in_ok-end.after c.in_ok-end.ensures.ok in
    rw told (weaker c.in_err-update.field-0.0 none c.in_err-update.ensures.faulty)

pub returns-in_err-by-clause-faulty : goal.returns-in_err-by-clause-faulty
returns-in_err-by-clause-faulty c =
    let told : c.from_residual-in_err-by.result ≡ Err c.in_err-by.field-0.0 = search rules in
    let fs = fields_of c.args.self.now.line.now in
    let none = no_third fs c.in_ok-end.end c.in_ok-update.update c.in_ok-end.after c.in_ok-update.after c.in_ok-end.ensures.ok c.in_ok-update.ensures.ok in
    rw told (weaker c.in_err-by.field-0.0 none c.in_err-by.ensures.faulty)

pub returns-then-is_some-clause-faulty : goal.returns-then-is_some-clause-faulty
returns-then-is_some-clause-faulty c =
    let fs = fields_of c.args.self.now.line.now in
    let there : slice_get fs c.in_ok-by.after ≡ None → ⊥ = search rules in
    let none = no_more fs c.in_ok-end.end c.in_ok-update.update c.in_ok-by.by c.in_ok-end.after c.in_ok-update.after c.in_ok-by.after c.in_ok-end.ensures.ok
    c.in_ok-update.ensures.ok c.in_ok-by.ensures.ok there in
    if_mistake c.wrong.result none
