use Rattle.std.proofs.Common.{◌≤◌, [], ◌++◌, List, length, subst, sym, ◌∙◌, refl, arith}
use Rattle.std.specs.List.{flat_map}
use Rattle.access_history.specs.declared.outcome.Outcome.{Outcome}
use Rattle.access_judge.specs.Judging.{root_says}
use Rattle.access_judge.specs.Log.{use_of}
use Rattle.access_judge.proofs.SearchLists.{at_contains}
use Rattle.access_judge.proofs.Sifting.{sifted, sifts_first, sifts_on}
use Rattle.access_judge.proofs.TableSays.{roots_are, uses_all, uses_more}
use Rattle.access_judge.proofs.permitted.tell_walks.Goals as goal

pub search_from-requires : goal.search_from-requires
search_from-requires g c =
    let us = g.L.Log.uses_of c.args.log.now in
    let u = use_of c.use_at-root.result in
    (g.met.L.Log.are_uses c.args.log.now).only u (at_contains us c.uses.number u c.use_at-root.ensures)

pub uses-init : goal.uses-init
uses-init g c = ([], sifts_first g.met.S.Sink.gains_nothing c.args.sink.now c.new-seen.ensures, refl)

pub uses-preserved : goal.uses-preserved
uses-preserved g c =
    let us = g.L.Log.uses_of c.args.log.now in
    let says = root_says c.args.question.now (g.L.Log.past c.args.log.now) in
    let i = c.uses.invariant in (
      i.0 ++ says (use_of c.use_at-root.result),
      sifts_on g.met.S.Sink.gains_on i.1 c.search_from.ensures,
      uses_more says us c.uses.number (use_of c.use_at-root.result) i.0 (flat_map says us) c.use_at-root.ensures i.2,
    )

pub returns : goal.returns
returns g c =
    let a = c.args.question.now in let p = g.L.Log.past c.args.log.now in let us = g.L.Log.uses_of c.args.log.now in
    let says = root_says a p in
    let i = c.uses.invariant in
    let over : length us ≤ c.uses.number = omega (arith, c.use_count-number-end.ensures) in
    subst (λ (os : List Outcome). g.S.Sink.gains c.args.sink.now os c.uses.sink)
    (uses_all says us c.uses.number i.0 (flat_map says us) over i.2 ∙ sym (roots_are a p us)) (sifted i.1)
