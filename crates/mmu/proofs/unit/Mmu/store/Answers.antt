use Rattle.std.proofs.Common.{◌≡◌, ◌/◌, ◌%◌, true, false, ap, sym, ◌∙◌}
use Rattle.access_history.specs.Held.{has_global}
use Rattle.access_history.specs.declared.event.Event.TheVariants.{Store}
use Rattle.mmu.specs.Recorded.{past_of}
use Rattle.mmu.specs.Units.{happened}
use Rattle.mmu.proofs.Local.{after_store, either}
use Rattle.mmu.proofs.unit.Mmu.store.Goals as goal

pub invariant_of-self-2-clause-local : goal.invariant_of-self-2-clause-local
invariant_of-self-2-clause-local c = λ none.
    let old = c.args.self.now in
    let before = old.local none in
    let p = c.args.address / 4096 in
    let i = c.args.address % 4096 / 8 in
    either c.store-2.result (past_of c.store-2.new.self) (past_of old.history) (happened (Store p i c.args.word) (past_of old.history)) c.store-2.ensures.ok c.store-2.ensures.err before
    (after_store (past_of old.history) p i c.args.word (ap has_global (sym c.from_word.ensures) ∙ sym c.has_global.ensures ∙ c.if-has_global.false) before)

pub invariant_of-self-clause-local : goal.invariant_of-self-clause-local
invariant_of-self-clause-local c = λ none. absurd (let bad : true ≡ false = none in cc)
