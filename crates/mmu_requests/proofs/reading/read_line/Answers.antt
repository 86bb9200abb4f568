use Rattle.std.proofs.Common.{rules, ◌≡◌, Some, Err, ap, sym, ◌∙◌, slice_get, arith}
use Rattle.script_language.specs.Lines.{fields_of}
use Rattle.mmu_requests.specs.Lines.{word_text}
use Rattle.mmu_requests.proofs.NoRequests.{if_mistake, makes_none, miscounted, weaker}
use Rattle.mmu_requests.proofs.reading.read_line.Goals as goal
use Rattle.mmu_requests.proofs.reading.read_line.Goals.{then-count-least-via-then-count-least, then-count-least-via-else-count-least+then-count-most}

pub returns-then-count-least-clause-faulty : goal.returns-then-count-least-clause-faulty
returns-then-count-least-clause-faulty c =
    let at : slice_get (fields_of c.args.line.now) 0 ≡ Some (word_text c.in-Some-of.word) =
    c.in-Some.ensures.field ∙ ap Some (sym c.in-Some-of.ensures.text) in
    let least = ap (λ p. p.0) c.counts-least.ensures in
    let most = ap (λ p. p.1) c.counts-least.ensures in
    if_mistake c.wrong_count.result (miscounted (fields_of c.args.line.now) c.in-Some-of.word at (λ few many. elim c.then-count-least.branch [
      | then-count-least-via-then-count-least w ↦ omega (arith, few, many, least, most, c.field_count-count.ensures, w.if-count-least.true)
      | then-count-least-via-else-count-least+then-count-most w ↦ omega (arith, few, many, least, most, c.field_count-count.ensures, w.if-count-most.true)
    ]))

pub returns-in_err-request-clause-faulty : goal.returns-in_err-request-clause-faulty
returns-in_err-request-clause-faulty c =
    let told : c.from_residual-in_err-request.result ≡ Err c.in_err-request.field-0.0 = search rules in
    let at : slice_get (fields_of c.args.line.now) 0 ≡ Some (word_text c.in-Some-of.word) =
    c.in-Some.ensures.field ∙ ap Some (sym c.in-Some-of.ensures.text) in
    rw told (weaker c.in_err-request.field-0.0 (makes_none (fields_of c.args.line.now) c.in-Some-of.word at) c.in_err-request.ensures.faulty)
