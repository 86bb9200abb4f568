use Rattle.std.proofs.Common.{◌≡◌, subst, sym, ◌∙◌}
use Rattle.std.proofs.lemmas.Option.{same_Some}
use Rattle.walk_rules.specs.declared.extensions.Extensions.{Extensions}
use Rattle.access_history.specs.declared.outcome.Request.{Request}
use Rattle.lent_history.specs.Lent.{Lent, extensions_of}
use Rattle.xv6vm_c.specs.Harts.{AreListed}
use Rattle.xv6vm_c.proofs.hart.xv6vm_hart_outcomes.Goals as goal

pub returns-clause-listed : goal.returns-clause-listed
returns-clause-listed c = λ y is.
    let l : Lent = record { hart = c.args.hart.now; events = c.args.events.now; base = c.args.base_ppn; words = c.args.words.now } in
    let e = c.outcomes.ensures in
    let same : c.in-Some.request ≡ y = same_Some _ _ (sym c.in-Some.is ∙ c.request.ensures.value ∙ is) in
    let listed : AreListed c.extensions.result c.new-history.result c.in-Some.request c.args.found.now c.outcomes.new.places c.outcomes.result =
    record { only = e.only; each = e.each; more = e.more; rest = e.rest } in
    subst (λ (q : Request). AreListed (extensions_of l.hart) l q c.args.found.now c.outcomes.new.places c.outcomes.result) same
    (subst (λ (h : Lent). AreListed (extensions_of l.hart) h c.in-Some.request c.args.found.now c.outcomes.new.places c.outcomes.result) c.new-history.ensures
    (subst (λ (x : Extensions). AreListed x c.new-history.result c.in-Some.request c.args.found.now c.outcomes.new.places c.outcomes.result) c.extensions.ensures listed))
