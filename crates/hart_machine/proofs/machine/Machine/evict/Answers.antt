use Rattle.std.proofs.Common.{ap, arith, refl}
use Rattle.hart_machine.proofs.BufferChanges.{evicted_are}
use Rattle.hart_machine.proofs.BufferSteps.{same_buffers}
use Rattle.hart_machine.proofs.Entries.{evicts, evicts_nothing, evicts_nowhere, hart_within}
use Rattle.hart_machine.proofs.machine.Machine.evict.Goals as goal

pub returns-then-hart-len-clause-made : goal.returns-then-hart-len-clause-made
returns-then-hart-len-clause-made c w is =
    evicts_nowhere c.args.self.now w is c.args.hart c.args.entry (omega (arith, c.len.ensures, c.if-hart-len.true))

pub returns-in-Ok-clause-made : goal.returns-in-Ok-clause-made
returns-in-Ok-clause-made c w is =
    let x = c.index_mut.result.now in
    let has = hart_within c.args.self.now w is c.args.hart (omega (arith, c.len.ensures, c.if-hart-len.false)) x c.index_mut.ensures.value in
    evicts c.args.self.now w is c.args.hart c.args.entry x.phase has x c.index_mut.ensures.value (c.in-Ok.ensures.there.0 refl) _ (ap (λ es. record x { buffer = es }) c.in-Ok.ensures.ok)

pub returns-in-Ok-clause-entries : goal.returns-in-Ok-clause-entries
returns-in-Ok-clause-entries c w is =
    evicted_are c.args.self.now c.args.hart c.index_mut.result.now _ c.index_mut.ensures.value is.tables is.kernel c.args.entry c.in-Ok.ensures.ok

pub returns-in-Err-clause-made : goal.returns-in-Err-clause-made
returns-in-Err-clause-made c w is =
    let x = c.index_mut.result.now in
    let has = hart_within c.args.self.now w is c.args.hart (omega (arith, c.len.ensures, c.if-hart-len.false)) x c.index_mut.ensures.value in
    evicts_nothing c.args.self.now w is c.args.hart c.args.entry x.phase has x c.index_mut.ensures.value (λ within. let both = c.in-Err.ensures.there.1 within in cc) _ (ap (λ es. record x { buffer = es }) c.in-Err.ensures.err)

pub returns-in-Err-clause-entries : goal.returns-in-Err-clause-entries
returns-in-Err-clause-entries c w is = same_buffers c.args.self.now c.args.hart c.index_mut.result.now _ c.index_mut.ensures.value c.in-Err.ensures.err
