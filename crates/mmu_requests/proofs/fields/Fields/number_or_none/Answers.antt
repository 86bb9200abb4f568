use Rattle.std.proofs.Common.{rules, ◌≡◌, Err, codes}
use Rattle.mmu_requests.proofs.NoRequests.{none_perhaps, weaker}
use Rattle.mmu_requests.proofs.fields.Fields.number_or_none.Goals as goal
use Rattle.mmu_requests.proofs.fields.Fields.number_or_none.Goals.{in_default-bytes-via-then-place-lt1, in_default-bytes-via-else-place-lt1+then-this-lt2+in_default-1, in_default-bytes-via-else-place-lt1+else-this-lt2}

no_dash : (c : goal.After-from_residual) → c.in-Some.place.bytes.now ≡ codes "-" → ⊥
no_dash c is = elim c.in_default-bytes.branch [
  | in_default-bytes-via-then-place-lt1 w ↦ search rules
  | in_default-bytes-via-else-place-lt1+then-this-lt2+in_default-1 w ↦ search rules
  | in_default-bytes-via-else-place-lt1+else-this-lt2 w ↦ search rules
]

pub returns-in_err-number-in_default-bytes-clause-faulty : goal.returns-in_err-number-in_default-bytes-clause-faulty
returns-in_err-number-in_default-bytes-clause-faulty c =
    let told : c.from_residual.result ≡ Err c.in_err-number-in_default-bytes.field-0.0 = search rules in
    let there = c.in-Some.ensures.field in
    rw told (weaker c.in_err-number-in_default-bytes.field-0.0 (none_perhaps _ c.args.n _ there (no_dash c)) c.in_err-number-in_default-bytes.ensures.faulty)
