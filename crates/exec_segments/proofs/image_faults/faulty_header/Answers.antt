use Rattle.std.proofs.Common.{◌≡◌, ◌+◌, ◌*◌, ◌∙◌, ap, sym, refl, Some, Ok}
use Rattle.std.specs.Prelude.{is_err, slice_get}
use Rattle.process_model.specs.Images as model
use Rattle.process_model.specs.Images.{judged, load, next_judged, outside, passed_over}
use Rattle.exec_segments.specs.Headers.{header_of}
use Rattle.exec_segments.specs.Loads.{load_of}
use Rattle.exec_segments.proofs.FirstFaults.{faulty, goes_on, passed_more}
use Rattle.exec_segments.proofs.Headers.{at_index}
use Rattle.exec_segments.proofs.image_faults.faulty_header.Goals as goal
use Rattle.exec_segments.proofs.image_faults.faulty_header.Goals.{After-header_at, in-Load+else-is_err, in-PassedOver}

-- the header of this turn
this : (c : After-header_at) → slice_get (model.headers_from c.args.bytes.now c.u64_at-table.result c.u16_at-count.result) c.headers.index ≡ Some (header_of c.header_at.result)
this c = at_index (λ k. model.header_at c.args.bytes.now (c.u64_at-table.result + 56 * k)) c.u16_at-count.result c.headers.index c.headers-test.true ∙ ap Some (sym c.header_at.ensures.header)

pub returns-in-Outside : goal.returns-in-Outside
returns-in-Outside c =
    let at = goal.at.returns-in-Outside c in
    let out : header_of c.header_at.result ≡ outside = ap header_of c.in-Outside.is in
    rw (c.outside.ensures, c.from.ensures, ← c.u64_at-table.ensures, ← c.u16_at-count.ensures) (record {
      before = c.headers.judging.loads;
      header = header_of c.header_at.result;
      there = this at.After-header_at;
      passed = c.headers.invariant.passed;
      fails = ap (λ h. is_err (judged c.args.scheme c.headers.judging.loads h)) out;
    })

pub returns-then-is_err : goal.returns-then-is_err
returns-then-is_err c =
    let at = goal.at.returns-then-is_err c in
    let one =
    ap (λ h. judged c.args.scheme c.headers.judging.loads (header_of h)) c.in-Load.is
    ∙ ap (λ z. judged z c.headers.judging.loads (load (load_of c.in-Load.load))) (sym c.headers.invariant.scheme) ∙ c.judge.ensures.judged in
    rw (c.of-segment.ensures, c.from-then-is_err.ensures, ← c.u64_at-table.ensures, ← c.u16_at-count.ensures) (faulty c.args.scheme (model.headers_from c.args.bytes.now c.u64_at-table.result c.u16_at-count.result) c.headers.index (header_of c.header_at.result) c.headers.judging.loads _ c.judge.result (this at.After-header_at) c.headers.invariant.passed one (sym c.is_err.ensures.value ∙ c.if-is_err.true))

pub headers-preserved : goal.headers-preserved
headers-preserved c =
    let at = goal.at.headers-preserved c in
    let scheme = c.headers.invariant.scheme in
    let headers = model.headers_from c.args.bytes.now c.u64_at-table.result c.u16_at-count.result in
    elim c.match-header_at.branch [
      | in-PassedOver w ↦
          record {
            scheme = ap (λ i. i.scheme) w.judging-is ∙ scheme;
            passed = passed_more c.args.scheme headers c.headers.index passed_over c.headers.judging.loads _ (this at.After-header_at ∙ ap (λ h. Some (header_of h)) w.in-PassedOver.is) c.headers.invariant.passed refl ∙ ap (λ i. Ok i.loads) (sym w.judging-is);
          }
      | in-Load+else-is_err w ↦
          let one =
          ap (λ h. judged c.args.scheme c.headers.judging.loads (header_of h)) w.in-Load.is
          ∙ ap (λ z. judged z c.headers.judging.loads (load (load_of w.in-Load.load))) (sym scheme) ∙ w.judge.ensures.judged in
          record {
            scheme = ap (λ i. i.scheme) w.judging-is ∙ w.judge.ensures.scheme ∙ scheme;
            passed = goes_on c.args.scheme headers c.headers.index (header_of c.header_at.result) c.headers.judging.loads _ w.judge.result (this at.After-header_at) c.headers.invariant.passed one (sym w.is_err.ensures.value ∙ w.if-is_err.false) ∙ ap (λ i. Ok i.loads) (sym w.judging-is);
          }
    ]
