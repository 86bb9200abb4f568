use Rattle.std.proofs.Common.{◌≡◌, ◌∙◌, ℕ, ℤ, pos, ◌+ℤ◌, ap, of_z, sym, to_z, w64}
use Rattle.std.specs.Prelude.{nat_abs}
use Rattle.std.proofs.lemmas.Int.{to_z-of_z}
use Rattle.process_model.specs.Bytes.{pages_for}
use Rattle.process_model.specs.Process.{without_pending}
use Rattle.hart_machine.proofs.MarkedCalls.{sbrk_changes, sbrk_keeps}
use Rattle.hart_machine.proofs.Released.{ceil, is_word, new_size, tells}
use Rattle.hart_machine.proofs.slot_process.SlotProcess.loses_page.Goals as goal

pub returns-in-Some-clause-changed : goal.returns-in-Some-clause-changed
returns-in-Some-clause-changed c t p slot_process q is =
    let h = c.has_settled in
    let delta = c.args.delta in
    let size = c.size-size.ensures ∙ sym slot_process.agrees.lays.size in
    let sum : c.in-Some.wanted ≡ nat_abs (pos c.size-size.result +ℤ to_z w64 (of_z w64 delta)) = c.in-Some.ensures.1 in
    let wanted = sum ∙ ap (λ (z : ℤ). nat_abs (pos c.size-size.result +ℤ z)) (to_z-of_z w64 delta c.ranges.delta) ∙ ap (λ (n : ℕ). nat_abs (pos n +ℤ delta)) size in
    let first : c.div_ceil.result ≡ pages_for q.size = c.div_ceil.ensures ∙ ceil c.in-Some.wanted ∙ ap pages_for (wanted ∙ sym (new_size p q delta is)) in
    let end : c.div_ceil-in-Some.result ≡ pages_for p.size = c.div_ceil-in-Some.ensures ∙ ceil c.size-size.result ∙ ap pages_for size in
    tells p (without_pending q) (pages_for q.size) (pages_for p.size) c.div_ceil.result c.div_ceil-in-Some.result first end (sbrk_changes p q delta is) (sbrk_keeps p q delta is)
    h.result (λ b. h.ensures.some b t p slot_process) (λ b. h.ensures.none b t p slot_process)

pub returns-in-None-clause-changed : goal.returns-in-None-clause-changed
returns-in-None-clause-changed c t p slot_process q is =
    absurd (is_word p q c.args.delta is c.size-size.result slot_process.agrees.sound.order (slot_process.agrees.lays.size ∙ sym c.size-size.ensures) c.ranges.delta c.in-None.ensures)
