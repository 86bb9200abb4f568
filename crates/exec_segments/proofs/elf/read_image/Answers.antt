use Rattle.std.proofs.Common.{[], ◌≡◌, ◌+◌, ◌*◌, ◌∙◌, ap, sym, drop, Ok, Err, Some, List, Result, refl, arith, rules}
use Rattle.std.specs.Prelude.{slice_get}
use Rattle.std.proofs.lemmas.Result.{IfOk-weaker}
use Rattle.process_model.specs.Images as model
use Rattle.process_model.specs.Images.{LoadSegment, judged, load, outside, passed_over}
use Rattle.process_model.specs.declared.image.BadImage.{BadImage}
use Rattle.exec_segments.specs.Headers.{header_of}
use Rattle.exec_segments.proofs.ElfChecks.{judges, no_header, no_magic, too_long}
use Rattle.exec_segments.proofs.Headers.{all_numbers, at_index}
use Rattle.exec_segments.proofs.Judged.{all_through, forward, judge, stopped, went_on}
use Rattle.exec_segments.proofs.elf.read_image.Goals as goal
use Rattle.exec_segments.proofs.elf.read_image.Goals.{After-header_at, After-new-judging, Joined-header_at, in-Load+in_ok-judge-in-Load, in-PassedOver}
use Rattle.exec_segments.specs.Loads.{load_of, loads_in}

pub returns-then-bytes-gt-LONGEST_IMAGE-clause-loads : goal.returns-then-bytes-gt-LONGEST_IMAGE-clause-loads
returns-then-bytes-gt-LONGEST_IMAGE-clause-loads c = sym (too_long _ _ c.if-bytes-gt-LONGEST_IMAGE.true)

pub returns-then-bytes-lt-FILE_HEADER-clause-loads : goal.returns-then-bytes-lt-FILE_HEADER-clause-loads
returns-then-bytes-lt-FILE_HEADER-clause-loads c = sym (no_header _ _ c.if-bytes-gt-LONGEST_IMAGE.false c.if-bytes-lt-FILE_HEADER.true)

pub returns-then-u32_at-ne-MAGIC-clause-loads : goal.returns-then-u32_at-ne-MAGIC-clause-loads
returns-then-u32_at-ne-MAGIC-clause-loads c = sym (no_magic _ _ c.if-bytes-gt-LONGEST_IMAGE.false c.if-bytes-lt-FILE_HEADER.false (λ is. c.if-u32_at-ne-MAGIC.true (c.u32_at.ensures ∙ is)))

pub headers-init : goal.headers-init
headers-init c = record {
  scheme = c.new-judging.ensures.scheme;
  judged = ap (λ b. judge c.args.scheme (Ok b) (model.headers_from c.args.bytes.now c.u64_at-table.result c.u16_at-count.result)) (sym c.new-judging.ensures.loads);
}

-- the program headers are judged
judging : (c : After-new-judging) → model.elf_loads c.args.scheme c.args.bytes.now ≡ model.at_least_one (judge c.args.scheme (Ok []) (model.headers_from c.args.bytes.now c.u64_at-table.result c.u16_at-count.result))
judging c = judges _ _ c.if-bytes-gt-LONGEST_IMAGE.false c.if-bytes-lt-FILE_HEADER.false c.u32_at.result _ _ c.if-u32_at-ne-MAGIC.false c.u32_at.ensures c.u64_at-table.ensures c.u16_at-count.ensures

-- the header of this turn
this : (c : After-header_at) → slice_get (model.headers_from c.args.bytes.now c.u64_at-table.result c.u16_at-count.result) c.headers.index ≡ Some (header_of c.header_at.result)
this c = at_index (λ k. model.header_at c.args.bytes.now (c.u64_at-table.result + 56 * k)) c.u16_at-count.result c.headers.index c.headers-test.true ∙ ap Some (sym c.header_at.ensures.header)

pub returns-in-Outside-clause-loads : goal.returns-in-Outside-clause-loads
returns-in-Outside-clause-loads c =
    let at = goal.at.returns-in-Outside-clause-loads c in
    let out : header_of c.header_at.result ≡ outside = ap header_of c.in-Outside.is in
    sym (judging at.After-new-judging ∙ ap model.at_least_one (stopped c.args.scheme (model.headers_from c.args.bytes.now c.u64_at-table.result c.u16_at-count.result) c.headers.index _ c.headers.judging.loads [] (Err _) (this at.After-header_at) c.headers.invariant.judged (ap (judged c.args.scheme c.headers.judging.loads) out) _ refl))

pub returns-in_err-judge-in-Load-clause-loads : goal.returns-in_err-judge-in-Load-clause-loads
returns-in_err-judge-in-Load-clause-loads c =
    let at = goal.at.returns-in_err-judge-in-Load-clause-loads c in
    let told : c.from_residual.result ≡ Err c.in_err-judge-in-Load.field-0.0 = search rules in
    let one =
    ap (λ h. judged c.args.scheme c.headers.judging.loads (header_of h)) c.in-Load.is
    ∙ ap (λ z. judged z c.headers.judging.loads (load (load_of c.in-Load.load))) (sym c.headers.invariant.scheme) ∙ c.judge.ensures.judged in
    ap loads_in told ∙ sym (judging at.After-new-judging ∙ ap model.at_least_one (stopped c.args.scheme (model.headers_from c.args.bytes.now c.u64_at-table.result c.u16_at-count.result) c.headers.index _ c.headers.judging.loads _ _ (this at.After-header_at) c.headers.invariant.judged one c.in_err-judge-in-Load.field-0.0 c.in_err-judge-in-Load.was))

-- what is left after it
abbrev goes_on : (c : Joined-header_at) → List LoadSegment → Result (List LoadSegment) BadImage
goes_on c before = judge c.args.scheme (Ok before) (drop (c.headers.index + 1) (model.headers_from c.args.bytes.now c.u64_at-table.result c.u16_at-count.result))

pub headers-preserved : goal.headers-preserved
headers-preserved c =
    let at = goal.at.headers-preserved c in
    let scheme = c.headers.invariant.scheme in
    elim c.match-header_at.branch [
      | in-PassedOver w ↦
          record {
            scheme = ap (λ i. i.scheme) w.judging-is ∙ scheme;
            judged = forward c.args.scheme (model.headers_from c.args.bytes.now c.u64_at-table.result c.u16_at-count.result) c.headers.index passed_over c.headers.judging.loads _ (this at.After-header_at ∙ ap (λ h. Some (header_of h)) w.in-PassedOver.is) c.headers.invariant.judged refl ∙ ap (λ i. goes_on c i.loads) (sym w.judging-is);
          }
      | in-Load+in_ok-judge-in-Load w ↦
          let one =
          ap (λ h. judged c.args.scheme c.headers.judging.loads (header_of h)) w.in-Load.is
          ∙ ap (λ z. judged z c.headers.judging.loads (load (load_of w.in-Load.load))) (sym scheme) ∙ w.judge.ensures.judged in
          record {
            scheme = ap (λ i. i.scheme) w.judging-is ∙ w.judge.ensures.scheme ∙ scheme;
            judged = went_on c.args.scheme (model.headers_from c.args.bytes.now c.u64_at-table.result c.u16_at-count.result) c.headers.index _ c.headers.judging.loads _ _ (this at.After-header_at) c.headers.invariant.judged one _ w.in_ok-judge-in-Load.was ∙ ap (λ i. goes_on c i.loads) (sym w.judging-is);
          }
    ]

pub returns-clause-loads : goal.returns-clause-loads
returns-clause-loads c =
    let at = goal.at.returns-clause-loads c in
    c.into_image.ensures.loads ∙ sym (judging at.After-new-judging ∙ ap model.at_least_one (all_through c.args.scheme (model.headers_from c.args.bytes.now c.u64_at-table.result c.u16_at-count.result) c.headers.index c.headers.judging.loads (let all = all_numbers (λ k. model.header_at c.args.bytes.now (c.u64_at-table.result + 56 * k)) c.u16_at-count.result 0 in omega (arith, c.headers-test.false, all)) c.headers.invariant.judged))

pub returns-clause-scheme : goal.returns-clause-scheme
returns-clause-scheme c = IfOk-weaker c.into_image.result _ _ (λ i is. is ∙ c.headers.invariant.scheme) c.into_image.ensures.scheme
