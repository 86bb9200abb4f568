use Rattle.std.proofs.Common.{rules, ◌≡◌, ◌∙◌, ◌%◌, ◌<◌, ◌^◌, ℕ, inl, inr, subst, sym}
use Rattle.std.proofs.lemmas.Bool.{false≢true}
use Rattle.access_history.specs.Parts.{byte_at, last_of}
use Rattle.access_history.specs.Permits.{IsMultiple}
use Rattle.access_judge.proofs.SearchSays.{multiple_each, multiple_only}
use Rattle.access_judge.proofs.part_faults.faulting_part.Goals as goal
use Rattle.access_judge.proofs.part_faults.faulting_part.Goals.{then-request-eq0-via-then-request-eq0, then-request-eq0-via-else-request-eq0+then-not-is_refusal}
use Rattle.std.proofs.lemmas.Bool.{eqb-true, eq-eqb}

whole : (va width : ℕ) → va % width ≡ 0 → IsMultiple va width
whole va width is = multiple_only va width (eq-eqb (va % width) 0 is)

odd : (va width : ℕ) → (va % width ≡ 0 → ⊥) → IsMultiple va width → ⊥
odd va width apart is = apart (eqb-true (va % width) 0 (multiple_each va width is))

pub returns-then-request-eq0-clause-none : goal.returns-then-request-eq0-clause-none
returns-then-request-eq0-clause-none g c = elim c.then-request-eq0.branch [
  | then-request-eq0-via-then-request-eq0 w ↦ λ found. found.1.odd (whole c.args.request.va.0 c.args.request.width w.if-request-eq0.true)
  | then-request-eq0-via-else-request-eq0+then-not-is_refusal w ↦ λ found.
      false≢true (sym w.if-not-is_refusal.true ∙ w.is_refusal.ensures.1 found.1.fault)
]

pub returns-then-permits-clause-some : goal.returns-then-permits-clause-some
returns-then-permits-clause-some g c = record {
  odd = odd c.args.request.va.0 c.args.request.width c.if-request-eq0.false;
  part = inl c.byte_at-first.ensures;
  fault = c.is_refusal.ensures.0 c.if-not-is_refusal.false;
  permitted = c.permits.ensures.0 c.if-permits.true;
}

pub returns-then-permits-2-clause-some : goal.returns-then-permits-2-clause-some
returns-then-permits-2-clause-some g c =
    let at : c.in_ok-address.address ≡ last_of c.args.request = search rules in
    let bound : last_of c.args.request < 2 ^ 64 = search rules in
    record {
      odd = odd c.args.request.va.0 c.args.request.width c.if-request-eq0.false;
      part = inr (bound, subst (λ (a : ℕ). c.byte_at-last.result ≡ byte_at c.args.request a) at c.byte_at-last.ensures);
      fault = c.is_refusal.ensures.0 c.if-not-is_refusal.false;
      permitted = c.permits-2.ensures.0 c.if-permits-2.true;
    }
