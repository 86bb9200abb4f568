use Rattle.std.proofs.Common.{◌∙◌, ℕ, None, ap, refl, sym}
use Rattle.std.specs.Prelude.{Err, Result}
use Rattle.std.proofs.lemmas.Result.{err_from_is_err_and}
use Rattle.address_space.proofs.PendingAccess.{agrees_pending}
use Rattle.mmap_regions.specs.MmapEffect.{process_mapped}
use Rattle.process_model.specs.Mappings.{mapped}
use Rattle.process_model.specs.declared.reply.Refusal.{Refusal}
use Rattle.address_space.specs.declared.space.Space.{Space}
use Rattle.frame_store.specs.View.{View}
use Rattle.hart_machine.specs.declared.slot_process.SlotProcess.{SlotProcess}
use Rattle.hart_machine.proofs.Mapping.{same_space}
use Rattle.hart_machine.proofs.slot_process.SlotProcess.mmap.Goals as goal

pub mmap-requires : goal.mmap-requires
mmap-requires c = record { ready = let r = c.requires.ready in (r.0, r.1, r.2.agrees) }

pub returns-in_err-address-clause-answer : goal.returns-in_err-address-clause-answer
returns-in_err-address-clause-answer c t p slot_process =
    let told = err_from_is_err_and c.from_residual.result c.from_residual.ensures.1 in
    told.1 ∙ ap (λ (e : Refusal). let r : Result ℕ Refusal = Err e in r) told.2 ∙ sym c.in_err-address.was ∙ c.mmap.ensures.answer t p slot_process.agrees

pub returns-in_err-address-clause-refused : goal.returns-in_err-address-clause-refused
returns-in_err-address-clause-refused c =
    let told = err_from_is_err_and c.from_residual.result c.from_residual.ensures.1 in
    let x = c.args.self.now in
    let y = c.mmap.new.space in
    let e = c.mmap.ensures in
    rw told.1 (ap (λ (z : Space View). let after : SlotProcess = record { space = z; pending = x.pending } in after) (same_space y x.space e.seat e.root e.trapframe c.in_err-address.ensures.refused))

pub returns-clause-answer : goal.returns-clause-answer
returns-clause-answer c t p slot_process = sym c.in_ok-address.was ∙ c.mmap.ensures.answer t p slot_process.agrees

pub returns-clause-after : goal.returns-clause-after
returns-clause-after c = λ t p slot_process. record {
  agrees = agrees_pending _ _ _ _ _ (process_mapped p (mapped c.args.files.now p c.args.length c.args.protection c.args.flags c.args.file)) (c.mmap.ensures.agrees t p slot_process.agrees) None;
  framed = rw c.mmap.ensures.trapframe slot_process.framed;
  pending = refl;
  wide = tt;
}
