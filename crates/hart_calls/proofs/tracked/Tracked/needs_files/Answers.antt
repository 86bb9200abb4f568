use Rattle.std.proofs.Common.{inl, inr, subst, sym}
use Rattle.hart_calls.specs.TurnCases.{IsMmap}
use Rattle.hart_calls.proofs.tracked.Tracked.needs_files.Goals as goal

pub returns-else-is_mmap : goal.returns-else-is_mmap
returns-else-is_mmap g c = (
  λ h. inr (c.has_mapping.ensures.0 h),
  λ n. elim n [
    | inl m ↦ absurd (let yes = c.is_mmap.ensures.1 (subst IsMmap (sym c.next.ensures) m) in let no = c.if-is_mmap.false in cc)
    | inr h ↦ c.has_mapping.ensures.1 h
  ],
)
