use Rattle.std.proofs.Common.{◌≡◌, ◌∷◌, ◌++◌, [], sym, ap, ◌∙◌}
use Rattle.fork_cycles.specs.Search.{mark_of}
use Rattle.fork_cycles.specs.declared.marks.Mark.TheVariants as mark
use Rattle.fork_cycles.proofs.Steps.{as_search, begun}
use Rattle.fork_cycles.proofs.search.begin.Goals as goal

pub returns-in_ok-push-in-New : goal.returns-in_ok-push-in-New
returns-in_ok-push-in-New c = λ lists m empty.
    let new : mark_of c.args.marks.now c.args.first ≡ mark.New = sym c.mark_of.ensures ∙ c.in-New.is in
    as_search _ _ _ _ _ _ c.set_mark.ensures (c.in_ok-push-in-New.ensures.items ∙ ap (λ xs. xs ++ c.args.first ∷ []) empty) (begun lists c.args.first c.args.marks.now m new)
