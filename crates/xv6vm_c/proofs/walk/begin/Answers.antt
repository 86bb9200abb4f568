use Rattle.std.proofs.Common.{sym, ◌∙◌, ◌≡◌}
use Rattle.std.proofs.lemmas.Option.{same_Some}
use Rattle.xv6vm_c.proofs.Steps.{begun_with}
use Rattle.xv6vm_c.proofs.walk.begin.Goals as goal

pub returns-clause-walks : goal.returns-clause-walks
returns-clause-walks c = λ s m there is.
    let same : c.in-Some.scheme ≡ s = same_Some _ _ (sym c.in-Some.is ∙ c.scheme.ensures.scheme ∙ is) in
    begun_with c.in-Some.scheme s m there c.ppn.result _ c.args.address c.args.access c.args.mode c.begin.result same c.ppn.ensures (c.begin.ensures.goes m there)
