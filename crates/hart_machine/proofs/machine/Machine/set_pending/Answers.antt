use Rattle.std.proofs.Common.{ap, sym, ◌∙◌, Some}
use Rattle.std.specs.Vec.{with_item}
use Rattle.std.proofs.lemmas.Option.{get_or_from_slice_get, same_Some}
use Rattle.hart_machine.specs.declared.slot_process.SlotProcess.{SlotProcess}
use Rattle.hart_machine.proofs.machine.Machine.set_pending.Goals as goal

pub returns : goal.returns
returns c x at =
    ap (λ (y : SlotProcess). record c.args.self.now { slots = with_item c.args.self.now.slots c.args.slot (Some (record y { pending = c.args.pending })) })
    (same_Some _ _ (sym c.in-Some.is ∙ c.index_mut.ensures.value ∙ get_or_from_slice_get c.args.self.now.slots.items c.args.slot (Some x) _ at))
