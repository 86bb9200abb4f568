use Rattle.std.proofs.Common.{ap, Option, ℕ}
use Rattle.std.specs.Option.{unwrap_or}
use Rattle.mmu.proofs.fences.Fences.reserve.Goals as goal

pub returns-clause-ends : goal.returns-clause-ends
returns-clause-ends c = λ s epoch. c.reserve-2.ensures.entries.2 (s, epoch)

pub returns-clause-addresses : goal.returns-clause-addresses
returns-clause-addresses c = λ bits page s. ap (λ (o : Option ℕ). unwrap_or o 0) (c.reserve-3.ensures.entries.2 (bits, page, s))
