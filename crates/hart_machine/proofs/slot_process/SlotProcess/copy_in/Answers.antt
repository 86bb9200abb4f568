use Rattle.std.proofs.Common.{inl, inr, sym, subst, ◌∙◌}
use Rattle.std.proofs.lemmas.Bool.{true≢false}
use Rattle.frame_store.specs.Laws.{fits_after}
use Rattle.frame_store.specs.Plain.{PlainStateInvariant}
use Rattle.sv39_entry.specs.declared.access.Access.TheVariants.{Load}
use Rattle.hart_machine.specs.SlotProcesses.{IsSlotProcess}
use Rattle.hart_machine.specs.declared.slot_process.SlotProcess.{SlotProcess}
use Rattle.hart_machine.proofs.Watched.{alike, none_gained, tells_residence, unlike}
use Rattle.hart_machine.proofs.slot_process.SlotProcess.copy_in.Goals as goal
use Rattle.hart_machine.proofs.slot_process.SlotProcess.copy_in.Goals.{then-before-after, else-before-after}

pub copy_bytes_in-reply-requires-clause-ready : goal.copy_bytes_in-reply-requires-clause-ready
copy_bytes_in-reply-requires-clause-ready c = rw c.residence-before.ensures.same c.requires.ready

pub residence-after-requires-clause-fits : goal.residence-after-requires-clause-fits
residence-after-requires-clause-fits c = let b = c.residence-before.ensures in fits_after PlainStateInvariant c.copy_bytes_in-reply.ensures.keeps (rw (b.frames, b.same) c.requires.fits)

pub residence-after-requires-clause-ready : goal.residence-after-requires-clause-ready
residence-after-requires-clause-ready c = let r = c.requires.ready in c.copy_bytes_in-reply.ensures.still r.0 r.1 (rw c.residence-before.ensures.same r.2)

pub returns-clause-changed : goal.returns-clause-changed
returns-clause-changed c t u p q slot_process after =
    let b = c.residence-before in
    let a = c.residence-after in
    let left : IsSlotProcess c.copy_bytes_in-reply.new.self u q = subst (λ (w : SlotProcess). IsSlotProcess w u q) a.ensures.same after in
    tells_residence p q Load c.args.va.0 b.result.0 b.result.1 a.result.0 a.result.1 (b.ensures.first t p slot_process) (b.ensures.next t p slot_process) (a.ensures.first u q left) (a.ensures.next u q left)
    c.if-before-after.result
    (elim c.if-before-after.branch [
      | then-before-after w ↦ λ is. absurd (true≢false (sym w.if-before-after.true ∙ sym w.result-is ∙ is))
      | else-before-after w ↦ λ is. (alike _ _ w.if-before-after.false, alike _ _ (sym w.result-is ∙ is))
    ])
    (elim c.if-before-after.branch [
      | then-before-after w ↦ λ is. inl (unlike _ _ w.if-before-after.true)
      | else-before-after w ↦ λ is. inr (unlike _ _ (sym w.result-is ∙ is))
    ])

pub returns-clause-keeps : goal.returns-clause-keeps
returns-clause-keeps c others r =
    let b = c.residence-before.ensures in
    let a = c.residence-after.ensures in
    rw (a.same, a.frames) (c.copy_bytes_in-reply.ensures.keeps others (rw (b.frames, b.same) r))

pub returns-then-before-2-clause-changed : goal.returns-then-before-2-clause-changed
returns-then-before-2-clause-changed c t u p q slot_process after =
    let b = c.residence-before.ensures in
    none_gained p q Load c.args.va.0 ((b.first t p slot_process).0 c.if-before.true) ((b.next t p slot_process).0 c.if-before-2.true)

pub returns-then-before-2-clause-keeps : goal.returns-then-before-2-clause-keeps
returns-then-before-2-clause-keeps c others r = let b = c.residence-before.ensures in c.copy_bytes_in-reply.ensures.keeps others (rw (b.frames, b.same) r)
