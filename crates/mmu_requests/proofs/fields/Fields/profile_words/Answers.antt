use Rattle.std.proofs.Common.{rules, ◌≡◌, ◌+◌, suc, sym, subst, ◌<◌, ◌≤◌, Err, arith, length}
use Rattle.script_language.specs.Lines.{fields_of}
use Rattle.mmu_requests.specs.Profiles.{IsProfileUntil, IsProfileUntil.begins, IsProfileUntil.goes_on}
use Rattle.mmu_requests.proofs.NoProfiles.{no_field, no_profile}
use Rattle.mmu_requests.proofs.NoRequests.{if_mistake, weaker}
use Rattle.mmu_requests.proofs.fields.Fields.profile_words.Goals as goal

pub returns-in-None-clause-faulty : goal.returns-in-None-clause-faulty
returns-in-None-clause-faulty c =
    let fs = fields_of c.args.self.now.line.now in
    let from : 1 ≤ c.words.n = search rules in
    let before : c.words.n < length fs = search rules in
    if_mistake c.no_profile_word.result (no_profile fs c.words.n c.in_ok-place.place.bytes.now from before c.in_ok-place.ensures.ok c.in-None.ensures.none)

pub words-init : goal.words-init
words-init c = subst (IsProfileUntil (fields_of c.args.self.now.line.now) 1) (sym c.without_words-profile.ensures) begins

pub returns-in_err-place-clause-faulty : goal.returns-in_err-place-clause-faulty
returns-in_err-place-clause-faulty c =
    let told : c.from_residual.result ≡ Err c.in_err-place.field-0.0 = search rules in
    let fs = fields_of c.args.self.now.line.now in
    let from : 1 ≤ c.words.n = search rules in
    let before : c.words.n < length fs = search rules in
    rw told (weaker c.in_err-place.field-0.0 (no_field fs c.words.n from before) c.in_err-place.ensures.faulty)

pub words-preserved : goal.words-preserved
words-preserved c =
    let fs = fields_of c.args.self.now.line.now in
    let step : suc c.words.n ≡ c.words.n + 1 = omega arith in
    let one = goes_on c.words.profile c.in_ok-place.place.bytes.now c.in-Some.word c.words.invariant c.in_ok-place.ensures.ok c.in-Some.ensures.text in
    subst (λ k. IsProfileUntil fs k c.with_word-profile.result) step (subst (IsProfileUntil fs (suc c.words.n)) (sym c.with_word-profile.ensures) one)

pub returns-clause-ok : goal.returns-clause-ok
returns-clause-ok c =
    let fs = fields_of c.args.self.now.line.now in
    let same : c.words.n ≡ length fs = search rules in
    subst (λ n. IsProfileUntil fs n c.words.profile) same c.words.invariant
