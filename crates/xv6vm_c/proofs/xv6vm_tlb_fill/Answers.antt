use Rattle.std.proofs.Common.{ap, sym, ◌∙◌}
use Rattle.sv39_entry.specs.Satp.{root_ppn, scheme_of}
use Rattle.xv6vm_c.proofs.Walks.{ends_with, same_memory}
use Rattle.xv6vm_c.proofs.xv6vm_tlb_fill.Goals as goal

pub returns-else-fill-clause-fault : goal.returns-else-fill-clause-fault
returns-else-fill-clause-fault c = λ _.
    let ended = c.fill.ensures.fault c.if-fill.false in (
      c.in-Some.scheme,
      sym (c.scheme.ensures.scheme ∙ ap scheme_of c.from_word-satp.ensures) ∙ c.in-Some.is,
      ends_with c.in-Some.scheme c.new-memory.result _ _ _ c.args.address
          (same_memory c.new-memory.result _ c.new-memory.ensures.base c.new-memory.ensures.words)
          (ap root_ppn c.from_word-satp.ensures) ended.0,
      ended.1,
    )
