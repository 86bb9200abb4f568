use Rattle.std.proofs.Common.{◌∷◌, ◌++◌, [], sym, ap, subst, ◌∙◌}
use Rattle.std.specs.Prelude.{IfSome}
use Rattle.fork_cycles.specs.Forks.{IsForkCycle}
use Rattle.fork_cycles.specs.Search.{Closes, IsSearch, part_from}
use Rattle.fork_cycles.proofs.Steps.{closed}
use Rattle.fork_cycles.proofs.search.walk.Goals as goal

pub returns-in-Some-2-clause-cycle : goal.returns-in-Some-2-clause-cycle
returns-in-Some-2-clause-cycle c =
    let lists = c.args.lists.now in
    let first = c.args.first in
    let s : IsSearch lists first c.path.marks (c.pop.new.self.items ++ c.in-Some.last ∷ []) = subst (IsSearch lists first c.path.marks) c.in-Some.ensures.items c.path.invariant in
    let closes : Closes lists first c.step.new.path.items c.in-Some-2.next =
    subst (λ next. IfSome next (Closes lists first c.step.new.path.items)) c.in-Some-2.is (c.in_ok-next.ensures.closes first s) in
    let items = c.in_ok-from_slice.ensures.items ∙ c.part_from.ensures ∙ ap (part_from c.in-Some-2.next) c.as_slice.ensures.value in
    subst (IsForkCycle lists first) (sym items) (closed lists first c.step.new.path.items c.in-Some-2.next closes)
