use Rattle.std.proofs.Common.{subst, sym}
use Rattle.access_judge.specs.Quiet.{HasNoGlobals}
use Rattle.mmu.proofs.Local.{in_fresh}
use Rattle.mmu.proofs.unit.Mmu.reset.Goals as goal

pub invariant_of-self-clause-local : goal.invariant_of-self-clause-local
invariant_of-self-clause-local c = λ none. subst HasNoGlobals (sym c.reset.ensures.past) (in_fresh c.args.pmp_entries)
