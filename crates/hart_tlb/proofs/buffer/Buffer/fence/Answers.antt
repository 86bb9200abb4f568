use Rattle.std.proofs.Common.{rules}
use Rattle.arrayvec.proofs.ArrayVecLemmas.{filter-from_retain}
use Rattle.hart_tlb.proofs.buffer.Buffer.fence.Goals as goal

pub returns : goal.returns
returns g c = rw (← c.self.view_is) (filter-from_retain _ _ _ (λ x b f' y called. search rules) _ _ c.retain.ensures.filtered)
