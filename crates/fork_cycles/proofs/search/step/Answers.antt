use Rattle.std.proofs.Common.{◌≡◌, ◌≢◌, ◌<◌, ◌∷◌, ◌++◌, [], None, Some, set, inl, inr, refl, sym, ap, subst, ◌∙◌}
use Rattle.fork_cycles.specs.Forks.{calls_in, forked_by}
use Rattle.fork_cycles.specs.Search.{Closes, first_unended, mark_of, work}
use Rattle.fork_cycles.specs.declared.marks.Mark.TheVariants as mark
use Rattle.fork_cycles.proofs.Steps.{as_search, back_is_less, on_is_less, step_back, step_closes, step_on}
use Rattle.fork_cycles.proofs.search.step.Goals as goal

pub returns-in_default-clause-kept : goal.returns-in_default-clause-kept
returns-in_default-clause-kept c = λ first s e.
    let none : first_unended c.args.marks.now (forked_by (calls_in c.args.lists.now c.args.last)) ≡ None =
    ap (λ calls. first_unended c.args.marks.now (forked_by calls)) (sym c.calls_of.ensures) ∙ sym c.next_fork.ensures ∙ c.in_default.is in
    as_search _ _ _ _ _ _ c.set_mark.ensures refl (step_back c.args.lists.now first c.args.marks.now c.args.path.now.items c.args.last s none)

pub returns-in_default-clause-less : goal.returns-in_default-clause-less
returns-in_default-clause-less c = λ e.
    subst (λ ms. work ms c.args.path.now.items < work c.args.marks.now (c.args.path.now.items ++ c.args.last ∷ [])) (sym c.set_mark.ensures)
    (back_is_less c.args.marks.now c.args.path.now.items c.args.last)

pub returns-in-OnPath-clause-closes : goal.returns-in-OnPath-clause-closes
returns-in-OnPath-clause-closes c = λ first s.
    let some : first_unended c.args.marks.now (forked_by (calls_in c.args.lists.now c.args.last)) ≡ Some c.in-Some.next =
    ap (λ calls. first_unended c.args.marks.now (forked_by calls)) (sym c.calls_of.ensures) ∙ sym c.next_fork.ensures ∙ c.in-Some.is in
    let on : mark_of c.args.marks.now c.in-Some.next ≡ mark.OnPath = sym c.mark_of.ensures ∙ c.in-OnPath.is in
    subst (λ path. Closes c.args.lists.now first path c.in-Some.next) (sym c.in_ok-push.ensures.items)
    (step_closes c.args.lists.now first c.args.marks.now c.args.path.now.items c.args.last c.in-Some.next s some on)

pub returns-in_ok-push-in-New : goal.returns-in_ok-push-in-New
returns-in_ok-push-in-New c =
    let some : first_unended c.args.marks.now (forked_by (calls_in c.args.lists.now c.args.last)) ≡ Some c.in-Some.next =
    ap (λ calls. first_unended c.args.marks.now (forked_by calls)) (sym c.calls_of.ensures) ∙ sym c.next_fork.ensures ∙ c.in-Some.is in
    let off : mark_of c.args.marks.now c.in-Some.next ≢ mark.OnPath = λ e. elim c.in-New.is [
      | inl new ↦ let bad : mark.OnPath ≡ mark.New = sym e ∙ sym c.mark_of.ensures ∙ new in absurd cc
      | inr ended ↦ let bad : mark.OnPath ≡ mark.Ended = sym e ∙ sym c.mark_of.ensures ∙ ended in absurd cc
    ] in
    let items = c.in_ok-push-in-New.ensures.items ∙ ap (λ xs. xs ++ c.in-Some.next ∷ []) c.in_ok-push.ensures.items in
    record {
      kept = λ first s e. as_search _ _ _ _ _ _ c.set_mark-in-New.ensures items (step_on c.args.lists.now first c.args.marks.now c.args.path.now.items c.args.last c.in-Some.next s some);
      less = λ e. subst (λ ms. work ms c.push-in-New.new.self.items < work c.args.marks.now (c.args.path.now.items ++ c.args.last ∷ [])) (sym c.set_mark-in-New.ensures)
          (subst (λ path. work (set c.args.marks.now c.in-Some.next mark.OnPath) path < work c.args.marks.now (c.args.path.now.items ++ c.args.last ∷ [])) (sym items)
          (on_is_less c.args.lists.now c.args.marks.now c.args.path.now.items c.args.last c.in-Some.next some off));
      closes = λ first s. tt;
    }
