use Rattle.std.proofs.Common.{◌≡◌, ◌∙◌, ap, sym, map, Ok, Err, Some, arith, rules}
use Rattle.std.specs.Prelude.{option_map, slice_get}
use Rattle.std.proofs.lemmas.List.{length-map}
use Rattle.std.proofs.lemmas.Option.{slice_get-get_or, slice_get-map}
use Rattle.std.proofs.lemmas.Result.{IfOk-weaker}
use Rattle.process_model.specs.Images as model
use Rattle.process_model.specs.Images.{judged, load}
use Rattle.exec_segments.specs.Loads.{loads_after, loads_in}
use Rattle.exec_segments.proofs.Judged.{all_through, judge, stopped, went_on}
use Rattle.exec_segments.proofs.image.Image.from_segments.Goals as goal
use Rattle.exec_segments.proofs.image.Image.from_segments.Goals.{After-judge}

pub segments-init : goal.segments-init
segments-init c = record {
  scheme = c.new-judging.ensures.scheme;
  judged = ap (λ b. judge c.args.scheme (Ok b) (map model.load_of c.args.segments.now)) (sym c.new-judging.ensures.loads);
}

-- the segment of this turn
this : (c : After-judge) → slice_get (map model.load_of c.args.segments.now) c.segments.segment-index ≡ Some (model.load_of c.segment-item.result)
this c =
    let s = c.segment-item.result in
    slice_get-map model.load_of c.args.segments.now c.segments.segment-index
    ∙ ap (option_map model.load_of) (slice_get-get_or c.args.segments.now c.segments.segment-index s c.segments-test.true ∙ ap Some (sym c.segment-item.is))

one : (c : After-judge) → judged c.args.scheme c.segments.judging.loads (model.load_of c.segment-item.result) ≡ loads_after c.judge.result c.judge.new.self.loads
one c =
    ap (λ z. judged z c.segments.judging.loads (model.load_of c.segment-item.result)) (sym c.segments.invariant.scheme)
    ∙ ap (λ l. judged c.segments.judging.scheme c.segments.judging.loads (load l)) (sym c.of.ensures.load) ∙ c.judge.ensures.judged

pub returns-in_err-judge-clause-loads : goal.returns-in_err-judge-clause-loads
unfolding model.segment_loads
returns-in_err-judge-clause-loads c =
    let at = goal.at.returns-in_err-judge-clause-loads c in
    let told : c.from_residual.result ≡ Err c.in_err-judge.field-0.0 = search rules in
    ap loads_in told ∙ sym (ap model.at_least_one (stopped c.args.scheme (map model.load_of c.args.segments.now) c.segments.segment-index _ c.segments.judging.loads _ _ (this at.After-judge) c.segments.invariant.judged (one at.After-judge) c.in_err-judge.field-0.0 c.in_err-judge.was))

pub segments-preserved : goal.segments-preserved
segments-preserved c =
    let at = goal.at.segments-preserved c in
    let on = went_on c.args.scheme (map model.load_of c.args.segments.now) c.segments.segment-index _ c.segments.judging.loads _ _ (this at.After-judge) c.segments.invariant.judged (one at.After-judge) _ c.in_ok-judge.was in
    record { scheme = c.judge.ensures.scheme ∙ c.segments.invariant.scheme; judged = on }

pub returns-clause-loads : goal.returns-clause-loads
unfolding model.segment_loads
returns-clause-loads c = c.into_image.ensures.loads ∙ sym (ap model.at_least_one (all_through c.args.scheme (map model.load_of c.args.segments.now) c.segments.segment-index c.segments.judging.loads (let same = length-map c.args.segments.now model.load_of in omega (arith, c.segments-test.false, same)) c.segments.invariant.judged))

pub returns-clause-scheme : goal.returns-clause-scheme
returns-clause-scheme c = IfOk-weaker c.into_image.result _ _ (λ i is. is ∙ c.segments.invariant.scheme) c.into_image.ensures.scheme
