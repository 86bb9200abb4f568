use Rattle.std.proofs.Common.{◌≡◌, ap, sym, ◌∙◌, arith}
use Rattle.access_judge.specs.Search.{space_fence}
use Rattle.lent_history.specs.Events.{history}
use Rattle.lent_history.specs.Scans.{is_space_fence}
use Rattle.lent_history.proofs.Epochs.{end_at_fence, end_now, no_fence}
use Rattle.lent_history.proofs.scan.epoch_end.Goals as goal

pub events-preserved : goal.events-preserved
events-preserved c = no_fence c.args.events.now c.events.k c.args.asid c.event_at.result c.event_at.ensures (sym c.is_space_fence.ensures ∙ c.if-is_space_fence.false) ∙ c.events.invariant

pub returns-then-is_space_fence : goal.returns-then-is_space_fence
returns-then-is_space_fence c =
    end_at_fence c.args.events.now c.events.k c.args.n c.args.asid _ c.events-test.true
    (ap (λ e. is_space_fence e c.args.asid) (sym c.event_at.ensures) ∙ sym c.is_space_fence.ensures ∙ c.if-is_space_fence.true) c.events.invariant

pub returns : goal.returns
returns c =
    let all : c.events.k ≡ c.args.n = omega (arith, c.events-test.false, c.events.auto.k-end) in
    end_now c.args.events.now c.args.n c.args.asid _ (ap (λ k. space_fence (history c.args.events.now k) c.args.asid) (sym all) ∙ c.events.invariant)
