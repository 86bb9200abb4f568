use Rattle.std.proofs.Common.{◌∙◌, inl, inr}
use Rattle.access_history.specs.Permits.{Permits}
use Rattle.access_history.specs.declared.outcome.Outcome.{Outcome}
use Rattle.mmu.specs.Pasts.{past}
use Rattle.mmu_lines.proofs.Meant.{denied, is_meant}
use Rattle.mmu_lines.proofs.claims.permitted_outcome.Goals as goal

pub returns-clause-none : goal.returns-clause-none
returns-clause-none c =
    let P : Outcome → Type 0 = λ o. Permits c.args.extensions (past c.args.unit.now) c.args.request o in
    λ o allowed told. elim (is_meant c.args.claim.now o told) [
      | inl same ↦ denied P c.permits-2.result o c.meant-plain.result c.permits-2.ensures c.if-permits-2.false (c.meant-plain.ensures ∙ same) allowed
      | inr other ↦ elim other [
        | inl same ↦ denied P c.permits-3.result o c.meant-uncached.result c.permits-3.ensures c.if-permits-3.false (c.meant-uncached.ensures ∙ same) allowed
        | inr same ↦ denied P c.permits-4.result o c.meant-device.result c.permits-4.ensures c.if-permits-4.false (c.meant-device.ensures ∙ same) allowed
      ]
    ]
