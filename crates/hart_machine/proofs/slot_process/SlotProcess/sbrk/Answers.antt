use Rattle.std.proofs.Common.{◌∙◌, ℕ, ℤ, None, ap, refl, subst, sym, w64}
use Rattle.std.specs.Prelude.{Err, Result}
use Rattle.std.proofs.lemmas.Int.{to_z-of_z}
use Rattle.std.proofs.lemmas.Result.{err_from_is_err_and}
use Rattle.address_space.proofs.PendingAccess.{agrees_pending}
use Rattle.lazy_growth.specs.SbrkResults.{answer_of, size_before}
use Rattle.lazy_growth.specs.SbrkEffect.{Resizes}
use Rattle.process_model.specs.Heap.{sbrk_result}
use Rattle.address_space.specs.Agreement.{body_of}
use Rattle.process_model.specs.declared.reply.Refusal.{Refusal}
use Rattle.hart_machine.specs.Calls.{size_of}
use Rattle.hart_machine.proofs.Watched.{same_tenant}
use Rattle.hart_machine.proofs.slot_process.SlotProcess.sbrk.Goals as goal

pub sbrk-requires-clause-fits : goal.sbrk-requires-clause-fits
sbrk-requires-clause-fits c = let h = c.loses_page-released.ensures in rw (h.frames, h.same) c.requires.fits

pub sbrk-requires-clause-ready : goal.sbrk-requires-clause-ready
sbrk-requires-clause-ready c = let r = c.requires.ready in (r.0, r.1, rw c.loses_page-released.ensures.same r.2.agrees)

pub returns-in_err-before-clause-answer : goal.returns-in_err-before-clause-answer
returns-in_err-before-clause-answer c t p slot_process =
    let told = err_from_is_err_and c.from_residual.result c.from_residual.ensures.1 in
    ap size_of told.1 ∙ ap (λ (e : Refusal). let r : Result ℕ Refusal = Err e in r) told.2 ∙ ap answer_of (sym c.in_err-before.was) ∙ c.sbrk.ensures.answer t p (rw c.loses_page-released.ensures.same slot_process.agrees)
    ∙ ap (λ (z : ℤ). size_before p (sbrk_result p z)) (to_z-of_z w64 c.args.delta c.ranges.delta)

pub returns-in_err-before-clause-stays : goal.returns-in_err-before-clause-stays
returns-in_err-before-clause-stays c =
    let told = err_from_is_err_and c.from_residual.result c.from_residual.ensures.1 in
    let x = c.loses_page-released.new.self in
    let e = c.sbrk.ensures in
    let r = c.in_err-before.ensures in
    rw told.1 (same_tenant x c.sbrk.new.space r.stays.view e.root e.trapframe r.stays.layout ∙ c.loses_page-released.ensures.same)

pub returns-clause-answer : goal.returns-clause-answer
returns-clause-answer c t p slot_process =
    ap answer_of (sym c.in_ok-before.was) ∙ c.sbrk.ensures.answer t p (rw c.loses_page-released.ensures.same slot_process.agrees) ∙ ap (λ (z : ℤ). size_before p (sbrk_result p z)) (to_z-of_z w64 c.args.delta c.ranges.delta)

pub returns-clause-resized : goal.returns-clause-resized
returns-clause-resized c = λ t p slot_process.
    let same = c.loses_page-released.ensures.same in
    let u = subst (λ (z : ℤ). Resizes (body_of (λ v. v) c.sbrk.new.space) t p z) (to_z-of_z w64 c.args.delta c.ranges.delta) (c.in_ok-before.ensures.resized t p (rw same slot_process.agrees)) in
    record {
      process = u.process;
      is = u.is;
      tables = u.tables;
      slot_process = record {
        agrees = agrees_pending _ _ _ _ _ u.process u.agrees None;
        framed = rw (c.sbrk.ensures.trapframe, same) slot_process.framed;
        pending = refl;
        wide = tt;
      };
      drops = u.drops;
    }

pub returns-clause-changed : goal.returns-clause-changed
returns-clause-changed c = λ t p slot_process q is. c.loses_page-released.ensures.changed t p slot_process q (ap (sbrk_result p) (to_z-of_z w64 c.args.delta c.ranges.delta) ∙ is)

pub returns-clause-keeps : goal.returns-clause-keeps
returns-clause-keeps c others r = let h = c.loses_page-released.ensures in c.sbrk.ensures.keeps others (rw (h.frames, h.same) r)
