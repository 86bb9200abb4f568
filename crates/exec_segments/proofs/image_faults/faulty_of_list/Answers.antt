use Rattle.std.proofs.Common.{◌≡◌, ◌∙◌, ap, sym, map, Some}
use Rattle.std.specs.Prelude.{option_map, slice_get}
use Rattle.std.proofs.lemmas.Option.{slice_get-get_or, slice_get-map}
use Rattle.process_model.specs.Images as model
use Rattle.process_model.specs.Images.{judged, load}
use Rattle.exec_segments.specs.Loads.{loads_after}
use Rattle.exec_segments.proofs.FirstFaults.{faulty, goes_on}
use Rattle.exec_segments.proofs.image_faults.faulty_of_list.Goals as goal
use Rattle.exec_segments.proofs.image_faults.faulty_of_list.Goals.{After-is_err}

-- the segment of this turn
this : (c : After-is_err) → slice_get (map model.load_of c.args.segments.now) c.segments.number ≡ Some (model.load_of c.index-segments-number.result)
this c =
    let s = c.index-segments-number.result in
    slice_get-map model.load_of c.args.segments.now c.segments.number
    ∙ ap (option_map model.load_of) (slice_get-get_or c.args.segments.now c.segments.number s c.segments-test.true ∙ ap Some (sym c.index-segments-number.is))

one : (c : After-is_err) → judged c.args.scheme c.segments.judging.loads (model.load_of c.index-segments-number.result) ≡ loads_after c.judge.result c.judge.new.self.loads
one c =
    ap (λ z. judged z c.segments.judging.loads (model.load_of c.index-segments-number.result)) (sym c.segments.invariant.scheme)
    ∙ ap (λ l. judged c.segments.judging.scheme c.segments.judging.loads (load l)) (sym c.of-load.ensures.load) ∙ c.judge.ensures.judged

pub returns-then-is_err : goal.returns-then-is_err
returns-then-is_err c =
    let at = goal.at.returns-then-is_err c in
    rw c.of.ensures (faulty c.args.scheme (map model.load_of c.args.segments.now) c.segments.number _ c.segments.judging.loads _ c.judge.result (this at.After-is_err) c.segments.invariant.passed (one at.After-is_err) (sym c.is_err.ensures.value ∙ c.if-is_err.true))

pub segments-preserved : goal.segments-preserved
segments-preserved c =
    let at = goal.at.segments-preserved c in
    record {
      scheme = c.judge.ensures.scheme ∙ c.segments.invariant.scheme;
      passed = goes_on c.args.scheme (map model.load_of c.args.segments.now) c.segments.number _ c.segments.judging.loads _ c.judge.result (this at.After-is_err) c.segments.invariant.passed (one at.After-is_err) (sym c.is_err.ensures.value ∙ c.if-is_err.false);
    }
