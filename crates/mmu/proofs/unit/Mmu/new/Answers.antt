use Rattle.std.proofs.Common.{subst, sym}
use Rattle.access_judge.specs.Quiet.{HasNoGlobals}
use Rattle.mmu.proofs.Local.{in_fresh}
use Rattle.mmu.proofs.unit.Mmu.new.Goals as goal

pub invariant_of-result-clause-local : goal.invariant_of-result-clause-local
invariant_of-result-clause-local c = λ none. subst HasNoGlobals (sym c.new.ensures.past) (in_fresh 0)
