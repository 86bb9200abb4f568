use Rattle.std.proofs.Common.{◌≡◌, ℕ, ◌<◌, ap, sym, subst, ◌∙◌}
use Rattle.frame_store.specs.View.{View, Hold, IsHeld, references, with_credits}
use Rattle.frame_clients.specs.FilledFrames.{filled_held}
use Rattle.frame_clients.proofs.Views.{hold_of-with_credits, dry_held}
use Rattle.frame_clients.proofs.PageSteps.{claimed_alone, filled_by_steps}
use Rattle.frame_clients.proofs.filling.filled_frame.Goals as goal

pub claim-frame-requires-clause-anchored : goal.claim-frame-requires-clause-anchored
claim-frame-requires-clause-anchored g c = subst (λ (h : Hold). 0 < h.references) (sym (hold_of-with_credits 1 _ _ c.in_ok-reserve.ensures.ok 0)) c.requires.anchored

pub fill-requires-clause-claimed : goal.fill-requires-clause-claimed
fill-requires-clause-claimed g c = claimed_alone _ _ _ c.claim-frame.ensures.view

pub returns-clause-ok : goal.returns-clause-ok
returns-clause-ok g c = filled_by_steps _ _ _ _ _ _ c.in_ok-reserve.ensures.ok c.claim-frame.ensures.view c.fill.ensures.view

pub returns-in_err-reserve-clause-anchored : goal.returns-in_err-reserve-clause-anchored
returns-in_err-reserve-clause-anchored g c = dry_held _ _ _ c.in_err-reserve.ensures.err c.requires.anchored

fresh_before : (v r : View) (f : ℕ) → r ≡ with_credits 1 v → references r f ≡ 0 → references v f ≡ 0
fresh_before v r f is none = ap (λ (h : Hold). h.references) (sym (hold_of-with_credits 1 v r is f)) ∙ none

pub returns-clause-fresh : goal.returns-clause-fresh
returns-clause-fresh g c = fresh_before _ _ _ c.in_ok-reserve.ensures.ok c.claim-frame.ensures.fresh

pub returns-clause-anchored : goal.returns-clause-anchored
returns-clause-anchored g c =
    subst (λ v. IsHeld v 0) (sym (filled_by_steps _ _ _ _ _ _ c.in_ok-reserve.ensures.ok c.claim-frame.ensures.view c.fill.ensures.view))
    (filled_held _ _ _ (fresh_before _ _ _ c.in_ok-reserve.ensures.ok c.claim-frame.ensures.fresh) c.requires.anchored)
