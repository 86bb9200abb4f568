use Rattle.std.proofs.Common.{◌/◌, ◌^◌, ◌∙◌}
use Rattle.mmu.specs.Fencing.{exact_fence, of_key}
use Rattle.mmu.specs.Recorded.{events_of}
use Rattle.mmu.proofs.Fenced.{by_exact, with_alike}
use Rattle.mmu.proofs.asked.MmuLog.address_fence.Goals as goal

pub returns : goal.returns
returns c =
    let h = c.args.self.now.history in
    let page = c.args.va.0 / 2 ^ c.args.bits in
    c.of_address.ensures
    ∙ with_alike (of_key h.fences c.args.bits page) (exact_fence h.first_satp (events_of h) c.args.bits page)
    (λ r. c.args.self.now.sound.fences.addresses c.args.bits page r c.requires) c.args.asid
    ∙ by_exact h.first_satp (events_of h) c.args.bits c.args.va.0 c.args.asid
