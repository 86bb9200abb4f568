use Rattle.std.proofs.Common.{◌+◌, ◌∙◌, ap}
use Rattle.frame_store.specs.View.{View, hold_of}
use Rattle.tests_of_tables.proofs.TableSteps.{claimed_other, fresh_apart, released_other, written_hold, written_other, taken_one, claimed_held}
use Rattle.table_walk.specs.SameFrames.{same_held}
use Rattle.tests_of_tables.proofs.walks.leave_words.Goals as goal

pub loop-index-init : goal.loop-index-init
loop-index-init g c =
    let claims = c.claim-frame.ensures in
    let own = claimed_held _ _ _ claims.view in
    record {
      keeps = claims.keeps;
      held = own.0;
      sole = own.1;
      kept = λ f held. ap (λ v. hold_of v f) claims.view ∙ claimed_other _ _ f (fresh_apart _ _ f claims.fresh held);
      credits = taken_one _ _ _ claims.view c.requires.credit;
    }

pub loop-index-preserved : goal.loop-index-preserved
loop-index-preserved g c =
    let i = c.loop-index.invariant in
    let view = c.store.ensures.view in
    let own = written_hold _ _ _ _ _ view i.held i.sole in
    record {
      keeps = λ others r. c.store.ensures.keeps others (i.keeps others r);
      held = own.0;
      sole = own.1;
      kept = λ f held. ap (λ v. hold_of v f) view ∙ written_other _ _ _ _ f (fresh_apart _ _ f c.claim-frame.ensures.fresh held) ∙ i.kept f held;
      credits = ap (λ (v : View). v.credits + 1) view ∙ i.credits;
    }

pub release-requires-clause-anchored : goal.release-requires-clause-anchored
release-requires-clause-anchored g c f held =
    same_held _ _ 0 (released_other _ _ 0 (fresh_apart _ _ 0 c.claim-frame.ensures.fresh c.requires.anchored) ∙ c.loop-index.invariant.kept 0 c.requires.anchored) c.requires.anchored

pub returns-clause-kept : goal.returns-clause-kept
returns-clause-kept g c f held =
    ap (λ v. hold_of v f) c.release.ensures.view ∙ released_other _ _ f (fresh_apart _ _ f c.claim-frame.ensures.fresh held) ∙ c.loop-index.invariant.kept f held
